use Rattle.run_inputs.specs.Inputs.{placed_with}
use Rattle.bound_run.proofs.Found.{figures_found, truth_found}
use Rattle.bound_run.proofs.bound.cut_of.Goals as goal

pub returns-clause-figures : goal.returns-clause-figures
returns-clause-figures c =
    figures_found (placed_with c.args.arch.now c.args.netlist.now c.args.placement.now) c.least_possible.result
    c.least_possible.ensures.nets c.least_possible.ensures.pins c.least_possible.ensures.places c.least_possible.ensures.width

pub returns-clause-sound : goal.returns-clause-sound
returns-clause-sound c =
    let p = placed_with c.args.arch.now c.args.netlist.now c.args.placement.now in
    truth_found p c.nx-columns.ensures.limits c.io_rat-pads.ensures.limits c.nets-nets.ensures.facts c.requires.read c.requires.placed c.least_possible.result
    (figures_found p c.least_possible.result c.least_possible.ensures.nets c.least_possible.ensures.pins c.least_possible.ensures.places c.least_possible.ensures.width)
    c.least_possible.ensures.none_below
