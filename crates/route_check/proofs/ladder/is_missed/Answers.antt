use Rattle.std.proofs.Common.{get_or, sym}
use Rattle.std.proofs.lemmas.Bool.{not_from_true}
use Rattle.route_tree.specs.Paths.{ends_of}
use Rattle.route_tree.specs.Legality.{is_among}
use Rattle.route_check.proofs.Once.{some_is}
use Rattle.route_check.proofs.ladder.is_missed.Goals as goal

pub returns-in-Some : goal.returns-in-Some
returns-in-Some c =
    let node = get_or c.args.sinks.now c.args.place 0 in
    sym (not_from_true (is_among (ends_of c.args.listing.now) node)
    (some_is c.args.listing.now node c.row_at.result c.in-Some.field-0 c.row_at.ensures c.in-Some.is))
