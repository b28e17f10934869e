use Rattle.std.proofs.Common.{refl, sym, ◌∙◌}
use Rattle.rr_graph.proofs.DevicesMade.{suits_read}
use Rattle.run_inputs.proofs.Designs.{design_fits, device_made}
use Rattle.run_inputs.proofs.placed.problem_of.Goals as goal

pub prove-unreachable-requires : goal.prove-unreachable-requires
prove-unreachable-requires c =
    let a = c.args.arch.now in
    let n = c.args.netlist.now in
    let p = c.args.placement.now in
    let is = c.device-device.ensures.device ∙ device_made c.args.width c.args.mode a n p c.in_ok-problem.problem c.in_ok-problem.ensures.made in
    let suits = suits_read c.device-device.result.now a p.nx p.ny c.args.width c.args.mode n p c.suits.result is refl refl c.requires.read c.requires.placed c.suits.ensures.read in
    let not = c.if-prove.true in
    absurd cc

pub returns-clause-fits : goal.returns-clause-fits
returns-clause-fits c =
    let a = c.args.arch.now in
    let n = c.args.netlist.now in
    let p = c.args.placement.now in
    let is = c.device-device.ensures.device ∙ device_made c.args.width c.args.mode a n p c.in_ok-problem.problem c.in_ok-problem.ensures.made in
    let suits = suits_read c.device-device.result.now a p.nx p.ny c.args.width c.args.mode n p c.suits.result is refl refl c.requires.read c.requires.placed c.suits.ensures.read in
    design_fits c.args.width c.args.mode a n p c.in_ok-problem.problem c.in_ok-problem.ensures.made
    (rw (← c.device-device.ensures.device) (sym c.suits.ensures.exact ∙ suits))
