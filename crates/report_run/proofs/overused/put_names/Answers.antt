use Rattle.std.proofs.Common.{[], subst, take, sym, ap, ◌∙◌}
use Rattle.std.specs.List.{flat_map}
use Rattle.std.proofs.lemmas.List.{flat_map_more, take_more}
use Rattle.text_output.specs.Printing.{PrintsTo}
use Rattle.text_output.proofs.Printing.{prints_then}
use Rattle.report_run.specs.Texts.{name_text}
use Rattle.report_run.proofs.overused.put_names.Goals as goal

pub loop-net-preserved : goal.loop-net-preserved
loop-net-preserved g c =
    let sink = g.W.ByteSink in
    let s = c.args.out.now in
    let t = c.put_name.new.out in
    let line = name_text c.args.netlist.now c.args.problem.now in
    let more = flat_map_more line [] (take c.loop-net.net-index c.args.nets.now) _ ∙ ap (flat_map line) (sym (take_more c.args.nets.now c.loop-net.net-index _ c.loop-net-test.true)) in
    subst (PrintsTo sink s t) more (prints_then c.loop-net.invariant c.put_name.ensures)
