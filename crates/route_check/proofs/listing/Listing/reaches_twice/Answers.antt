use Rattle.std.proofs.Common.{◌||◌, sym, ap, ◌∙◌}
use Rattle.std.proofs.lemmas.Bool.{or_left}
use Rattle.route_tree.specs.Paths.{ends_of}
use Rattle.route_tree.specs.Legality.{is_among, has_twice}
use Rattle.route_check.proofs.Once.{some_is}
use Rattle.route_check.proofs.SortedEnds.{repeated}
use Rattle.route_check.proofs.listing.Listing.reaches_twice.Goals as goal

pub returns-in-Some : goal.returns-in-Some
returns-in-Some c =
    let ends = ends_of c.args.self.now in
    sym (or_left (is_among ends c.args.source) (has_twice ends) (some_is c.args.self.now c.args.source c.row_of.result c.in-Some.field-0 c.row_of.ensures
    c.in-Some.is))

pub returns-in-None : goal.returns-in-None
returns-in-None c =
    let ends = ends_of c.args.self.now in
    c.is_repeated.ensures ∙ sym (repeated c.args.self.now c.ends.result.now c.ends.ensures) ∙ ap (λ b. b || has_twice ends) (sym c.in-None.ensures)
