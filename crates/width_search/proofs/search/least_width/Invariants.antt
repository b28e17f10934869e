use Rattle.rr_graph.specs.Designs.{problem_with}
use Rattle.width_search.specs.Reports.{Negotiates}
use Rattle.width_search.proofs.Searching.{IsSearch, trials_left}
use Rattle.width_search.proofs.search.least_width.Given as goal

abbrev pub invariant-loop-width : goal.invariant-loop-width
invariant-loop-width g l = IsSearch (Negotiates (problem_with l.design.mode l.design.arch.now l.design.netlist.now l.design.placement.now) l.how.settings.now l.how.workers (g.G.Gate.accepted l.how.gate.now)) l.start l.report

abbrev pub decreases-loop-width : goal.decreases-loop-width
decreases-loop-width g l = trials_left l.report.trials
