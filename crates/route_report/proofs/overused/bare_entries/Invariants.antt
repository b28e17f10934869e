use Rattle.std.proofs.Common.{◌≡◌, map, take}
use Rattle.route_report.specs.kept.Overused.{bare}
use Rattle.route_report.proofs.overused.bare_entries.Given as goal

abbrev pub invariant-loop-node : goal.invariant-loop-node
invariant-loop-node l = l.entries.items ≡ map (bare l.device l.uses) (take l.node-index l.nodes)
