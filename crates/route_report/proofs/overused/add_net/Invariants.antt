use Rattle.std.proofs.Common.{◌≡◌, map, take}
use Rattle.route_tree.specs.Legality.{is_among}
use Rattle.route_report.specs.kept.Overused.{with_net}
use Rattle.route_report.proofs.overused.add_net.Given as goal

abbrev pub invariant-loop-node : goal.invariant-loop-node
invariant-loop-node l = l.entries ≡ map (with_net (is_among (take l.node-index l.covered)) l.net) l.fn.entries
