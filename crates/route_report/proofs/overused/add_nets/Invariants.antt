use Rattle.std.proofs.Common.{◌≡◌, map}
use Rattle.route_report.specs.kept.Overused.{entry_to}
use Rattle.route_report.proofs.overused.add_nets.Given as goal

abbrev pub invariant-loop-net : goal.invariant-loop-net
invariant-loop-net l = l.entries ≡ map (entry_to l.problem l.lists l.net) l.nodes
