use Rattle.std.proofs.Common.{◌≡◌, [], drop}
use Rattle.route_tree.specs.Legality.{is_listed_after}
use Rattle.route_check.specs.kept.Listed.{earlier_ends}
use Rattle.route_check.proofs.order.is_listed.Given as goal

abbrev pub invariant-loop-row : goal.invariant-loop-row
invariant-loop-row l =
    is_listed_after l.device l.net.source [] l.listing ≡ is_listed_after l.device l.net.source (earlier_ends l.listing l.row) (drop l.row l.listing)
