use Rattle.std.proofs.Common.{drop}
use Rattle.route_file.proofs.Steps.{IsSoFar}
use Rattle.route_file.proofs.reading.lists_by_net.Given as goal

-- what the lines so far say is kept, and none of them is faulty
abbrev pub invariant-loop-i : goal.invariant-loop-i
invariant-loop-i l = IsSoFar l.netlist l.device (drop 2 l.lines) l.i l.seen
