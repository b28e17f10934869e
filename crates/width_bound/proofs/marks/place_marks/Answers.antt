use Rattle.std.proofs.Common.{take}
use Rattle.rr_graph.specs.node.Kind.TheVariants.{Source}
use Rattle.width_bound.specs.Cuts.{is_same_place}
use Rattle.width_bound.specs.kept.Marks.{some_place}
use Rattle.width_bound.proofs.Marking.{marks_next}
use Rattle.width_bound.proofs.marks.place_marks.Goals as goal

pub loop-place-preserved : goal.loop-place-preserved
loop-place-preserved c =
    let xs = c.args.places.now in
    let k = c.loop-place.place-index in
    marks_next (λ i j. is_same_place (c.args.kind, i, j)) xs k (Source, 0, 0) c.set_place.new.marks.items c.loop-place-test.true
    (c.set_place.ensures (some_place c.args.kind (take k xs)) c.loop-place.invariant)
