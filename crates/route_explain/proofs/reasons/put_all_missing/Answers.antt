use Rattle.std.proofs.Common.{[], subst, take, sym, ap, ◌∙◌}
use Rattle.std.specs.List.{flat_map}
use Rattle.std.proofs.lemmas.List.{flat_map_more, take_more}
use Rattle.text_output.specs.Printing.{PrintsTo}
use Rattle.text_output.proofs.Printing.{prints_then}
use Rattle.route_explain.specs.Reasons.{missing_text}
use Rattle.route_explain.proofs.reasons.put_all_missing.Goals as goal

pub loop-node-preserved : goal.loop-node-preserved
loop-node-preserved g c =
    let sink = g.W.ByteSink in
    let s = c.args.out.now in
    let t = c.put_missing.new.out in
    let text = missing_text c.args.device.now c.args.list.now.pairs in
    let more = flat_map_more text [] (take c.loop-node.node-index c.sinks-sinks.result.now) _ ∙ ap (flat_map text) (sym (take_more c.sinks-sinks.result.now c.loop-node.node-index _ c.loop-node-test.true)) in
    subst (PrintsTo sink s t) more (prints_then c.loop-node.invariant c.put_missing.ensures)
