use Rattle.width_bound.proofs.DesignBound.{none_told, places_told}
use Rattle.width_bound.proofs.design.design_figures.Goals as goal

pub returns-clause-places : goal.returns-clause-places
returns-clause-places c =
    places_told c.args.arch.now c.args.netlist.now c.args.placement.now c.args.cut.now c.in_ok-problem.problem c.in_ok-problem.ensures.made c.cut_figures.result
    c.cut_figures.ensures.places

pub returns-clause-none_below : goal.returns-clause-none_below
returns-clause-none_below c =
    none_told c.args.arch.now c.args.netlist.now c.args.placement.now c.args.cut.now c.in_ok-problem.problem c.in_ok-problem.ensures.made c.cut_figures.result
    c.device-limits.ensures.limits c.nets-facts.ensures.facts c.requires.read c.requires.placed c.cut_figures.ensures.nets c.cut_figures.ensures.pins
    c.cut_figures.ensures.places c.cut_figures.ensures.width
