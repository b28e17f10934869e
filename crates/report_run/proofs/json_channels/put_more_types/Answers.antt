use Rattle.std.proofs.Common.{[], subst, take, sym, ap, ◌∙◌}
use Rattle.std.specs.List.{flat_map}
use Rattle.std.proofs.lemmas.List.{flat_map_more, take_more}
use Rattle.text_output.specs.Printing.{PrintsTo}
use Rattle.text_output.proofs.Printing.{prints_then}
use Rattle.report_run.specs.Json.{next_item}
use Rattle.report_run.specs.JsonReport.{type_json}
use Rattle.report_run.proofs.json_channels.put_more_types.Goals as goal

pub loop-kind-preserved : goal.loop-kind-preserved
loop-kind-preserved g c =
    let sink = g.W.ByteSink in
    let s = c.args.out.now in
    let t = c.put_next_type.new.out in
    let line = next_item type_json in
    let more = flat_map_more line [] (take c.loop-kind.kind-index c.args.types.now) _ ∙ ap (flat_map line) (sym (take_more c.args.types.now c.loop-kind.kind-index _ c.loop-kind-test.true)) in
    subst (PrintsTo sink s t) more (prints_then c.loop-kind.invariant c.put_next_type.ensures)
