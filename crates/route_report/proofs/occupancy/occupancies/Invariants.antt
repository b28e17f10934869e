use Rattle.route_report.specs.kept.Channels.{IsOccupied}
use Rattle.route_report.proofs.occupancy.occupancies.Given as goal

abbrev pub invariant-loop-node : goal.invariant-loop-node
invariant-loop-node l = IsOccupied l.device l.uses l.kind l.places l.count l.node l.channels.items
