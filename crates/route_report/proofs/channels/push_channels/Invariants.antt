use Rattle.std.proofs.Common.{◌≡◌, ◌++◌}
use Rattle.route_report.specs.kept.Channels.{numbered}
use Rattle.route_report.proofs.channels.push_channels.Given as goal

abbrev pub invariant-loop-number : goal.invariant-loop-number
invariant-loop-number l = l.list.items ≡ l.fn.list.items ++ numbered l.fn.kind l.channels l.number
