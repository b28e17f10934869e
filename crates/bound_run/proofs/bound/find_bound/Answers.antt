use Rattle.bound_run.proofs.bound.find_bound.Goals as goal

pub returns-clause-figures : goal.returns-clause-figures
returns-clause-figures c = rw (c.arch.ensures, c.netlist.ensures.netlist, c.placement.ensures.placement) at c.cut_of.ensures.figures

pub returns-clause-sound : goal.returns-clause-sound
returns-clause-sound c = rw (c.arch.ensures, c.netlist.ensures.netlist, c.placement.ensures.placement) at c.cut_of.ensures.sound
