use Rattle.std.proofs.Common.{◌≤◌, ℕ, length, All, ap, sym, subst, ◌∙◌, arith}
use Rattle.std.proofs.lemmas.List.Elements.{All-nil}
use Rattle.std.specs.Arc.{arc_value}
use Rattle.congestion_book.specs.Histories.{amount_in}
use Rattle.congestion_book.specs.kept.HistoryTables.{AreHistories}
use Rattle.congestion_book.proofs.Growing.{none_yet}
use Rattle.congestion_book.proofs.history.History.new.Goals as goal

pub invariant_of-result : goal.invariant_of-result
invariant_of-result c =
    let rows = c.in_ok-rows.ensures.items in
    record {
      exact = subst (λ rs. AreHistories c.args.acc rs (arc_value c.in_ok-histories.histories)) (sym rows)
          (none_yet c.args.acc c.args.nodes (arc_value c.in_ok-histories.histories) (c.in_ok-histories.ensures.ok ∙ c.in_ok-new.ensures));
      bounded = subst (All (λ row. (a : ℕ) → amount_in row a ≤ 65535)) (sym rows) (All-nil (λ row. (a : ℕ) → amount_in row a ≤ 65535));
      acc = omega arith;
      few = omega (arith, ap length rows);
      room = c.in_ok-rows.ensures.capacity;
    }
