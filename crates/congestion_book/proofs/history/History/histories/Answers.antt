use Rattle.std.proofs.Common.{ℕ, ◌<◌, ◌^◌, inl, inr, length, get_or, subst, arith}
use Rattle.std.proofs.lemmas.Bool.{cases_lt}
use Rattle.std.proofs.lemmas.List.{get_or_past}
use Rattle.congestion_book.specs.kept.HistoryTables.{HistoryTable}
use Rattle.congestion_book.specs.kept.Fields.{history_table}
use Rattle.congestion_book.proofs.Growing.{small_history}
use Rattle.congestion_book.proofs.history.History.histories.Goals as goal

pub returns-clause-small : goal.returns-clause-small
returns-clause-small c =
    let t = history_table c.self.inside in
    let kept = c.self.invariant in
    subst (λ (t : HistoryTable). (a : ℕ) → get_or t.histories a 0 < 2 ^ 42) c.self.view_is
    (λ a. elim (cases_lt a (length t.histories)) [
      | inl low ↦ let small = small_history t.acc t.rows kept.acc kept.few kept.bounded a in omega (arith, small, kept.exact a low)
      | inr past ↦ omega (arith, get_or_past t.histories a 0 past)
    ])
