use Rattle.std.proofs.Common.{inl, inr, subst, arith}
use Rattle.std.proofs.lemmas.Bool.{cases_lt}
use Rattle.wave_queue.specs.kept.Marks.{AreMarksFrom}
use Rattle.wave_queue.proofs.Marked.{none_before, none_marked}
use Rattle.wave_queue.proofs.marks.first_marked.Goals as goal

pub returns-then-marks-ne0-clause-off : goal.returns-then-marks-ne0-clause-off
returns-then-marks-ne0-clause-off c = λ i from until. elim (cases_lt i c.loop-at.at) [
  | inl less ↦ c.loop-at.invariant.1 i from less
  | inr more ↦ none_before c.args.words.now c.loop-at.at c.marks_from-marks.result c.lowest_bit.result c.marks_from-marks.ensures c.lowest_bit.ensures.one c.lowest_bit.ensures.first i more until
]

pub loop-at-preserved : goal.loop-at-preserved
loop-at-preserved c = (
  omega (arith, c.loop-at.invariant.0, c.loop-at-test.true, c.ranges.end.fits),
  λ i from until. elim (cases_lt i c.loop-at.at) [
    | inl less ↦ c.loop-at.invariant.1 i from less
    | inr more ↦ none_marked c.args.words.now c.loop-at.at (subst (AreMarksFrom c.args.words.now c.loop-at.at) c.if-marks-ne0.false c.marks_from-marks.ensures) i more (omega (arith, until))
  ],
)
