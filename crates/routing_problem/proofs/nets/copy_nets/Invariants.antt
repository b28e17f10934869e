use Rattle.std.proofs.Common.{◌≡◌, take}
use Rattle.routing_problem.proofs.nets.copy_nets.Given as goal

abbrev pub invariant-loop-net : goal.invariant-loop-net
invariant-loop-net l = l.copies.items ≡ take l.net-index l.nets
