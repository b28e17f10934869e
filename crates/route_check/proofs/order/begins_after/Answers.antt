use Rattle.std.proofs.Common.{◌≡◌, ℕ, false, sym, subst, ◌∙◌}
use Rattle.std.proofs.lemmas.Bool.{ne_eqb}
use Rattle.route_tree.specs.Paths.{ends_of}
use Rattle.route_tree.specs.Legality.{is_among}
use Rattle.route_check.specs.kept.Ends.{begin_in}
use Rattle.route_check.proofs.Earlier.{none_after, one_after}
use Rattle.route_check.proofs.order.begins_after.Goals as goal

pub returns-in-None : goal.returns-in-None
returns-in-None c =
    let pairs = c.args.listing.now in
    let row = c.args.row in
    let same = c.begin-begin.ensures in
    none_after c.args.source pairs row (begin_in pairs row) c.requires.there (subst (λ (b : ℕ). is_among (ends_of pairs) b ≡ false) same c.in-None.ensures)
    (ne_eqb c.args.source (begin_in pairs row) (λ e. c.if-begin-source.false (same ∙ sym e)))

pub returns-in-Some : goal.returns-in-Some
returns-in-Some c =
    let pairs = c.args.listing.now in
    let row = c.args.row in
    let same = c.begin-begin.ensures in
    one_after c.args.source pairs row (begin_in pairs row) c.in-Some.parent c.requires.once c.requires.there
    c.in-Some.ensures.0 (c.in-Some.ensures.1 ∙ same)
    (ne_eqb c.args.source (begin_in pairs row) (λ e. c.if-begin-source.false (same ∙ sym e)))
