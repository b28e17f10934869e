use Rattle.std.proofs.Common.{take}
use Rattle.width_bound.specs.kept.Marks.{AreMarks, some_corner}
use Rattle.width_bound.proofs.marks.corner_marks.Given as goal

abbrev pub invariant-loop-corner : goal.invariant-loop-corner
invariant-loop-corner l = AreMarks (some_corner (take l.corner-index l.corners)) l.marks.items
