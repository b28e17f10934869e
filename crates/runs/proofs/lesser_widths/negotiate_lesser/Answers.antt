use Rattle.runs.proofs.lesser_widths.negotiate_lesser.Goals as goal

pub returns-clause-outcome : goal.returns-clause-outcome
returns-clause-outcome g c = rw (c.arch.ensures, c.netlist.ensures.netlist, c.placement.ensures.placement) at c.in_ok-outcome.ensures
