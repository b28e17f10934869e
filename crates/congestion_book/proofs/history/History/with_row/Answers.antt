use Rattle.std.proofs.Common.{◌<◌, ◌++◌, ◌∷◌, [], length, sym, subst, ◌∙◌}
use Rattle.std.specs.Arc.{arc_value}
use Rattle.congestion_book.specs.kept.HistoryTables.{HistoryTable, AreHistories}
use Rattle.congestion_book.specs.kept.Fields.{history_table}
use Rattle.congestion_book.proofs.Growing.{room_for_row, row_added}
use Rattle.congestion_book.proofs.history.History.with_row.Goals as goal

abbrev HasRoom : HistoryTable → Type 0
HasRoom t = length t.rows < 500

pub add_row-requires-clause-bounded : goal.add_row-requires-clause-bounded
add_row-requires-clause-bounded c =
    let exact = subst (AreHistories c.self.inside.acc c.self.inside.rows.items) (sym (c.in_ok-histories.ensures ∙ c.deref.ensures)) c.self.invariant.exact in
    room_for_row c.self.inside.acc c.self.inside.rows.items c.args.row.now c.in_ok-histories.histories exact
    c.self.invariant.acc (subst HasRoom (sym c.self.view_is) c.requires.few) c.self.invariant.bounded c.requires.bounded

pub returns-clause-exact : goal.returns-clause-exact
returns-clause-exact c =
    let t = history_table c.self.inside in
    let row = c.args.row.now in
    let before = subst (AreHistories t.acc t.rows) (sym (c.in_ok-histories.ensures ∙ c.deref.ensures)) c.self.invariant.exact in
    let after = row_added t.acc t.rows row c.in_ok-histories.histories before c.add_row.new.histories c.add_row.ensures in
    subst (λ (t : HistoryTable). AreHistories t.acc (t.rows ++ row ∷ []) (arc_value c.in_ok-new.field-0)) c.self.view_is
    (subst (AreHistories t.acc (t.rows ++ row ∷ [])) (sym c.in_ok-new.ensures.ok) after)
