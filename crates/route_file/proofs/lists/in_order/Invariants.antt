use Rattle.route_file.proofs.Taken.{IsTaken}
use Rattle.route_file.proofs.lists.in_order.Given as goal

-- the lists of the nets so far were taken, and those of later nets are still there
abbrev pub invariant-loop-net : goal.invariant-loop-net
invariant-loop-net l = IsTaken l.problem.nets l.initial.lists.items l.lists.items l.ordered.items l.net
