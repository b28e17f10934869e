use Rattle.route_check.proofs.SortedEnds.{row_there}
use Rattle.route_check.proofs.listing.Listing.row_at.Goals as goal

pub returns-then-ends-place : goal.returns-then-ends-place
returns-then-ends-place c =
    row_there c.args.self.now c.ends-ends.result.now c.ends-ends.ensures c.args.node c.args.place c.if-place-ends.true c.if-ends-place.true
