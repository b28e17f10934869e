use Rattle.std.proofs.Common.{◌≡◌, ◌*◌, ◌/◌, ◌%◌, arith, inl, inr, sym}
use Rattle.std.proofs.lemmas.Bool.{cases_lt}
use Rattle.wave_ground.proofs.eight_boxes.fewest_short_in.Goals as goal

pub loop-at-preserved : goal.loop-at-preserved
loop-at-preserved c wire k place is lt within stands =
    let at = c.loop-at.at in
    elim (cases_lt k (8 * at)) [
      | inl before ↦ let old = c.loop-at.invariant wire k place is before within stands in omega (arith, old, c.min-fewest.ensures)
      | inr after ↦
          let here : k / 8 ≡ at = omega (arith, lt, after) in
          let low = c.fewest_short.ensures wire (k % 8) place is (omega arith) (rw (sym here) (stands _)) in
          omega (arith, low, c.min-fewest.ensures)
    ]

pub returns : goal.returns
returns c wire at place is within stands = c.loop-at.invariant wire at place is (omega (arith, within, c.loop-at-test.false)) within stands
