use Rattle.std.proofs.Common.{◌≡◌, arith, subst}
use Rattle.wave_ground.specs.kept.Boxes.{wire_of}
use Rattle.wave_ground.specs.kept.EightBoxes.{StandsAt}
use Rattle.wave_ground.proofs.eight_boxes.fewest_in.Goals as goal

pub returns-then-outlook-gt0 : goal.returns-then-outlook-gt0
returns-then-outlook-gt0 c at place within stands = c.fewest_long_in.ensures (wire_of c.args.group.now) at place c.in-Some.ensures (omega (arith, within, c.requires)) stands

pub returns-then-boxes-eq1 : goal.returns-then-boxes-eq1
returns-then-boxes-eq1 c at place within stands =
    let first : at ≡ 0 = omega (arith, within, c.if-boxes-eq1.true) in
    c.first_short.ensures (wire_of c.args.group.now) place c.in-Some.ensures (subst (λ i. StandsAt c.args.eights.now i place) first stands _)

pub returns : goal.returns
returns c at place within stands = c.fewest_short_in.ensures (wire_of c.args.group.now) at place c.in-Some.ensures (omega (arith, within, c.requires)) stands
