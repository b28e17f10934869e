use Rattle.std.proofs.Common.{◌≡◌, replicate}
use Rattle.route_report.proofs.occupancy.free_channels.Given as goal

abbrev pub invariant-loop : goal.invariant-loop
invariant-loop l = l.channels.items ≡ replicate l.counter (replicate l.places 0)
