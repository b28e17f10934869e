use Rattle.std.proofs.Common.{[], subst, take, sym, ap, ◌∙◌}
use Rattle.std.specs.List.{flat_map}
use Rattle.std.proofs.lemmas.List.{flat_map_more, take_more}
use Rattle.text_output.specs.Printing.{PrintsTo}
use Rattle.text_output.proofs.Printing.{prints_then}
use Rattle.bound_run.specs.CutTexts.{place_line}
use Rattle.bound_run.proofs.places.put_places.Goals as goal

pub loop-place-preserved : goal.loop-place-preserved
loop-place-preserved g c =
    let sink = g.W.ByteSink in
    let s = c.args.out.now in
    let t = c.put_place.new.out in
    let more = flat_map_more (λ p. place_line p.0 p.1 p.2) [] (take c.loop-place.place-index c.args.places.now) _ ∙ ap (flat_map (λ p. place_line p.0 p.1 p.2)) (sym (take_more c.args.places.now c.loop-place.place-index _ c.loop-place-test.true)) in
    subst (PrintsTo sink s t) more (prints_then c.loop-place.invariant c.put_place.ensures)
