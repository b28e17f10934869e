use Rattle.std.proofs.Common.{◌≡◌, ◌≤◌, ◌/◌, inl, inr, arith, subst}
use Rattle.std.proofs.lemmas.Bool.{cases_lt}
use Rattle.wavefront.specs.kept.Bounds.{wires_for}
use Rattle.wave_ground.specs.kept.EightBoxes.{gap_at, gap_beside}
use Rattle.wave_ground.proofs.LooksAtOnce.{nearer}
use Rattle.wave_ground.proofs.eight_boxes.fewest_short.Goals as goal

pub loop-lane-preserved : goal.loop-lane-preserved
loop-lane-preserved c k lt =
    let at = c.loop-lane.lane in
    elim (cases_lt k at) [
      | inl before ↦ let old = c.loop-lane.invariant k before in omega (arith, old, c.min-fewest.ensures)
      | inr after ↦
          let here : at ≡ k = omega (arith, lt, after) in
          subst (λ i. c.min-fewest.result / 64 ≤ wires_for 0 (gap_at c.args.along.now i) (gap_beside c.args.across.now i)) here
          (nearer 0 _ _ _ _ _ c.gap_at.ensures c.gap_beside.ensures (omega (arith, c.min-fewest.ensures, c.numbered.ensures, c.short_wires-wires.ensures)))
    ]
