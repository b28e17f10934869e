use Rattle.std.proofs.Common.{take}
use Rattle.width_bound.specs.kept.Marks.{AreMarks, some_place}
use Rattle.width_bound.proofs.marks.place_marks.Given as goal

abbrev pub invariant-loop-place : goal.invariant-loop-place
invariant-loop-place l = AreMarks (some_place l.kind (take l.place-index l.places)) l.marks.items
