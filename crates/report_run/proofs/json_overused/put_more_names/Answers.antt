use Rattle.std.proofs.Common.{[], subst, take, sym, ap, ◌∙◌}
use Rattle.std.specs.List.{flat_map}
use Rattle.std.proofs.lemmas.List.{flat_map_more, take_more}
use Rattle.text_output.specs.Printing.{PrintsTo}
use Rattle.text_output.proofs.Printing.{prints_then}
use Rattle.report_run.specs.Json.{next_item}
use Rattle.report_run.specs.JsonReport.{name_json}
use Rattle.report_run.proofs.json_overused.put_more_names.Goals as goal

pub loop-net-preserved : goal.loop-net-preserved
loop-net-preserved g c =
    let sink = g.W.ByteSink in
    let s = c.args.out.now in
    let t = c.put_next_name.new.out in
    let line = next_item (name_json c.args.netlist.now c.args.problem.now) in
    let more = flat_map_more line [] (take c.loop-net.net-index c.args.nets.now) _ ∙ ap (flat_map line) (sym (take_more c.args.nets.now c.loop-net.net-index _ c.loop-net-test.true)) in
    subst (PrintsTo sink s t) more (prints_then c.loop-net.invariant c.put_next_name.ensures)
