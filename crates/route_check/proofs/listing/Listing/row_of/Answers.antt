use Rattle.std.proofs.Common.{arith}
use Rattle.route_check.proofs.SortedEnds.{row_there, none_there}
use Rattle.route_check.proofs.listing.Listing.row_of.Goals as goal
use Rattle.route_check.proofs.listing.Listing.row_of.Goals.{else-place-ends-via-then-place-ends+else-ends-place, else-place-ends-via-else-place-ends}

pub returns-then-ends-place : goal.returns-then-ends-place
returns-then-ends-place c =
    row_there c.args.self.now c.ends-ends.result.now c.ends-ends.ensures c.args.node c.place_of-place.result c.if-place-ends.true c.if-ends-place.true

pub returns : goal.returns
returns c =
    none_there c.args.self.now c.ends-ends.result.now c.ends-ends.ensures c.args.node c.place_of-place.result c.place_of-place.ensures
    (λ l. elim c.else-place-ends.branch [
      | else-place-ends-via-then-place-ends+else-ends-place w ↦ w.if-ends-place.false
      | else-place-ends-via-else-place-ends w ↦ λ e. absurd (let past = w.if-place-ends.false in omega arith)
    ])
