use Rattle.rr_graph.specs.Designs.{problem_with}
use Rattle.width_search.specs.Reports.{Negotiates}
use Rattle.width_search.proofs.Climbing.{IsClimb, upward_left}
use Rattle.width_search.proofs.upward.upward_width.Given as goal

abbrev pub invariant-loop-width : goal.invariant-loop-width
invariant-loop-width g l = IsClimb (Negotiates (problem_with l.design.mode l.design.arch.now l.design.netlist.now l.design.placement.now) l.how.settings.now l.how.workers (g.G.Gate.accepted l.how.gate.now)) l.first l.report

abbrev pub decreases-loop-width : goal.decreases-loop-width
decreases-loop-width g l = upward_left l.first l.report.trials
