use Rattle.rr_graph.specs.Edges.{is_same_corner}
use Rattle.std.proofs.Common.{take}
use Rattle.width_bound.specs.kept.Marks.{some_corner}
use Rattle.width_bound.proofs.Marking.{marks_next}
use Rattle.width_bound.proofs.marks.corner_marks.Goals as goal

pub loop-corner-preserved : goal.loop-corner-preserved
loop-corner-preserved c =
    let xs = c.args.corners.now in
    let k = c.loop-corner.corner-index in
    marks_next (λ i j. is_same_corner (i, j)) xs k (0, 0) c.set_mark.new.marks.items c.loop-corner-test.true
    (c.set_mark.ensures (some_corner (take k xs)) c.loop-corner.invariant)
