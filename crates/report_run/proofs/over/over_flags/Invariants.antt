use Rattle.std.proofs.Common.{◌≡◌, if◌then◌else◌, map}
use Rattle.rr_graph.specs.Fabric.{numbers_below}
use Rattle.route_report.specs.Overused.{is_over}
use Rattle.report_run.proofs.over.over_flags.Given as goal

-- the flags of the nodes so far were pushed
abbrev pub invariant-loop-node : goal.invariant-loop-node
invariant-loop-node l = l.flags.items ≡ map (λ a. if is_over l.device l.uses a then 1 else 0) (numbers_below l.node)
