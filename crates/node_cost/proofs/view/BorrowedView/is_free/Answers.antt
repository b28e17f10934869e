use Rattle.std.proofs.Common.{◌≡◌, ◌∙◌, ap, arith, length, sym}
use Rattle.node_cost.specs.Views.{history_in, others_in}
use Rattle.node_cost.specs.kept.Packed.{counts_of}
use Rattle.node_cost.proofs.Noting.{free_at}
use Rattle.node_cost.proofs.Packing.{count_is, length_counts}
use Rattle.node_cost.proofs.Views.{history_at, length_seen, others_at}
use Rattle.node_cost.proofs.view.BorrowedView.is_free.Goals as goal

pub is_blank-requires : goal.is_blank-requires
is_blank-requires c =
    let counts = counts_of c.self.inside.words.now c.self.inside.wide.now in
    let long = length_counts c.self.inside.words.now c.self.inside.wide.now in
    let seen = length_seen counts c.self.inside.histories.now (omega (arith, c.self.invariant.size, long)) in
    let same = ap length c.self.view_is in
    omega (arith, c.requires, c.self.invariant.each, long, seen, same)

pub returns : goal.returns
returns c =
    let words = c.self.inside.words.now in
    let wide = c.self.inside.wide.now in
    let histories = c.self.inside.histories.now in
    let id = c.args.id in
    let long = length_counts words wide in
    let size : length histories ≡ length (counts_of words wide) = omega (arith, c.self.invariant.size, long) in
    let seen = length_seen (counts_of words wide) histories size in
    let same = ap length c.self.view_is in
    let others = ap (λ v. others_in v id) (sym c.self.view_is) ∙ (others_at (counts_of words wide) histories id size ∙ count_is words wide id (omega (arith, c.requires, long, seen, same))) in
    let history = ap (λ v. history_in v id) (sym c.self.view_is) ∙ history_at (counts_of words wide) histories id size in
    let free = free_at histories words wide id c.self.invariant.full c.self.invariant.flagged in (
      λ test. let both = free.0 (c.is_blank.ensures.0 test) in (others ∙ both.0, history ∙ both.1),
      λ none. c.is_blank.ensures.1 (free.1 (sym others ∙ none.0, sym history ∙ none.1)),
    )
