use Rattle.std.proofs.Common.{sym, ◌∙◌}
use Rattle.width_bound.proofs.Marking.{place_set}
use Rattle.width_bound.proofs.marks.set_place.Goals as goal

pub returns-then-rank_of_kind : goal.returns-then-rank_of_kind
returns-then-rank_of_kind c = λ test are.
    place_set test c.set_mark.new.marks.items c.args.kind c.args.place (sym c.rank_of_kind.ensures ∙ c.if-rank_of_kind.true ∙ c.rank_of_kind-2.ensures) (c.set_mark.ensures test are)
