use Rattle.std.proofs.Common.{[], subst, take, sym, ap, ◌∙◌}
use Rattle.std.specs.List.{flat_map}
use Rattle.std.proofs.lemmas.List.{flat_map_more, take_more}
use Rattle.text_output.specs.Printing.{PrintsTo}
use Rattle.text_output.proofs.Printing.{prints_then}
use Rattle.route_explain.specs.Reasons.{leaving_text}
use Rattle.route_explain.proofs.reasons.put_all_leaving.Goals as goal

pub loop-pair-preserved : goal.loop-pair-preserved
loop-pair-preserved g c =
    let sink = g.W.ByteSink in
    let s = c.args.out.now in
    let t = c.put_leaving.new.out in
    let text = leaving_text c.args.device.now c.args.source in
    let more = flat_map_more text [] (take c.loop-pair.pair-index c.args.pairs.now) _ ∙ ap (flat_map text) (sym (take_more c.args.pairs.now c.loop-pair.pair-index _ c.loop-pair-test.true)) in
    subst (PrintsTo sink s t) more (prints_then c.loop-pair.invariant c.put_leaving.ensures)
