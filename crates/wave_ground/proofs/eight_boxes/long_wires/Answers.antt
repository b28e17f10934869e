use Rattle.std.proofs.Common.{◌+◌, ◌-◌, min, max, arith}
use Rattle.wavefront.proofs.WiresOver.{over_more}
use Rattle.wave_ground.proofs.eight_boxes.long_wires.Goals as goal

pub returns : goal.returns
returns c =
    let first = over_more c.args.steps c.max.result (max c.args.along (min 1 c.args.across)) (omega (arith, c.max.ensures, c.min.ensures)) in
    let third = over_more c.args.steps c.saturating_sub.result (c.args.along - 1) (omega (arith, c.saturating_sub.ensures)) in
    let fourth = over_more c.args.steps c.saturating_add.result (c.args.across + 1) (omega (arith, c.saturating_add.ensures)) in
    omega (arith, first, third, fourth, c.wires_over.ensures, c.wires_over-2.ensures, c.wires_over-3.ensures, c.wires_over-4.ensures, c.min-2.ensures, c.saturating_add-last_along.ensures, c.saturating_add-last_across.ensures)
