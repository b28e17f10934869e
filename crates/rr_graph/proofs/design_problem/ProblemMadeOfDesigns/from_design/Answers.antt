use Rattle.rr_graph.proofs.DevicesMade.{suits_read}
use Rattle.rr_graph.proofs.design_problem.ProblemMadeOfDesigns.from_design.Goals as goal

pub prove-unreachable-requires : goal.prove-unreachable-requires
prove-unreachable-requires c =
    let suits = suits_read c.in_ok-device.device c.args.arch.now c.nx-nx.result c.ny-ny.result c.args.width c.args.mode c.args.netlist.now c.args.placement.now c.suits.result
    c.in_ok-device.ensures c.nx-nx.ensures.entry c.ny-ny.ensures.entry c.requires.read c.requires.placed c.suits.ensures.read in
    let not = c.if-prove.true in
    absurd cc
