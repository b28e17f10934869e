-- Every event keeps a book sound.
use Rattle.std.proofs.Common.{◌≡◌, ℕ, ◌+◌, ◌<◌, ◌≤◌, List, [], ◌∷◌, ◌++◌, length, replicate, All, Option, None, refl, sym, ap, subst, ◌∙◌, arith, length-append}
use Rattle.std.proofs.lemmas.List.{length-replicate}
use Rattle.std.proofs.lemmas.Option.{none-some}
use Rattle.routing_problem.specs.Problems.{RoutingProblem}
use Rattle.route_tree.proofs.Uses.{unused}
use Rattle.std.proofs.lemmas.List.Elements.{All-nil, All-push}
use Rattle.std.proofs.lemmas.Bool.Decides.{nat_tests}
use Rattle.routing_problem.specs.Nodes.{node_count_of}
use Rattle.route_tree.specs.TreeLists.{lists_of_trees}
use Rattle.congestion_book.specs.Turns.{TurnTable, AreInOrder, NameEachOnce, IsFirstWaiting}
use Rattle.congestion_book.specs.kept.TurnTables.{first_table, table_closed}
use Rattle.congestion_book.specs.kept.Counts.{AreRecorded}
use Rattle.congestion_book.specs.Histories.{Amount, IsRow, histories_of, row_of}
use Rattle.congestion_book.specs.kept.HistoryTables.{HistoryTable, AreHistories}
use Rattle.congestion_book.specs.Contents.{Content, IsSound, opening}
use Rattle.congestion_book.specs.Steps.{after_close}
use Rattle.congestion_book.specs.declared.book.Book.TheInside.{Inside}
use Rattle.std.specs.Arc.{arc_value}
use Rattle.congestion_book.specs.declared.book.NextIteration.{NextIteration}
use Rattle.congestion_book.specs.kept.Closing.{IsNext}
use Rattle.congestion_book.specs.kept.Fields.{content_of, IsBookInside}
use Rattle.congestion_book.proofs.Turning.{none_held, close_in_order}
use Rattle.congestion_book.proofs.Recording.{none_listed}
use Rattle.congestion_book.proofs.Growing.{none_yet, histories_are}
use Rattle.congestion_book.proofs.Rows.{row_formed}
use Rattle.route_report.proofs.Counting.{zeros}

pub none_in_order : (nets : ℕ) → AreInOrder (first_table nets)
none_in_order nets = record {
  drawn = omega arith;
  once = λ i. rw (none_held nets i) (grind (arith, nat_tests));
  closed = All-nil (NameEachOnce (length (replicate {A = Option ℕ} nets None)));
}

-- ---- where nothing was drawn
pub opening_sound : (p : RoutingProblem) (acc : ℕ) → IsSound (opening p acc)
opening_sound p acc =
    let nodes = node_count_of p.device in
    let nets = length p.nets in
    let zeroes : List ℕ = replicate nodes 0 in
    let size : length zeroes ≡ nodes = length-replicate nodes 0 in
    record {
      one_each = length-replicate nets None;
      routes = λ i pairs e. absurd (none-some pairs (sym (none_listed nets i) ∙ e));
      occupied = size;
      uses = λ a. zeros nodes a ∙ sym (unused p.nets nets a);
      remembered = size;
      accumulated = λ a l. none_yet acc nodes zeroes refl a (omega (arith, l, size));
      held = length-replicate nets None;
      order = none_in_order nets;
      rows = refl;
      few = omega arith;
      formed = All-nil (IsRow nodes nets);
    }

-- what is counted of the recorded trees
pub recorded : (b : Inside) → IsBookInside b →
    AreRecorded b.problem (lists_of_trees b.routes.trees.items) b.routes.usage.counts b.routes.usage.overused b.routes.unrouted
recorded b kept = record {
  problem = kept.problem;
  one_each = kept.sound.one_each;
  routes = kept.sound.routes;
  size = kept.sound.occupied;
  uses = kept.sound.uses;
  over = kept.over;
  without = kept.without;
}

-- what is sound by its parts
pub kept_by : (b : Inside) → AreRecorded b.problem (lists_of_trees b.routes.trees.items) b.routes.usage.counts b.routes.usage.overused b.routes.unrouted →
    length b.history.histories ≡ node_count_of b.problem.device → AreHistories b.history.acc b.history.rows b.history.histories →
    length b.turns.holders ≡ length b.problem.nets → AreInOrder b.turns → length b.history.rows ≡ length b.turns.earlier → length b.history.rows ≤ 500 →
    All (IsRow (node_count_of b.problem.device) (length b.problem.nets)) b.history.rows → b.marks ≡ node_count_of b.problem.device → IsBookInside b
kept_by b rec size exact held order rows few formed marks = record {
  problem = rec.problem;
  sound = record {
    one_each = rec.one_each;
    routes = rec.routes;
    occupied = rec.size;
    uses = rec.uses;
    remembered = size;
    accumulated = λ a l. exact a (omega (arith, l, size));
    held = held;
    order = order;
    rows = rows;
    few = few;
    formed = formed;
  };
  over = rec.over;
  without = rec.without;
  marks = marks;
}

pub new_kept : (b : Inside) (acc nodes nets : ℕ) →
    AreRecorded b.problem (lists_of_trees b.routes.trees.items) b.routes.usage.counts b.routes.usage.overused b.routes.unrouted →
    nodes ≡ node_count_of b.problem.device → nets ≡ length b.problem.nets →
    b.history ≡ record { acc = acc; rows = []; histories = replicate nodes 0 } → b.turns ≡ first_table nets → b.marks ≡ node_count_of b.problem.device → IsBookInside b
new_kept b acc nodes nets rec is_nodes is_nets history turns marks =
    let rows : length b.history.rows ≡ 0 = ap (λ (h : HistoryTable). length h.rows) history in
    let earlier : length b.turns.earlier ≡ 0 = ap (λ (t : TurnTable). length t.earlier) turns in
    let start : HistoryTable = record { acc = acc; rows = []; histories = replicate nodes 0 } in
    kept_by b rec
    (ap (λ (h : HistoryTable). length h.histories) history ∙ (length-replicate nodes 0 ∙ is_nodes))
    (subst (λ (h : HistoryTable). AreHistories h.acc h.rows h.histories) (sym history) (none_yet acc nodes start.histories refl))
    (ap (λ (t : TurnTable). length t.holders) turns ∙ (length-replicate nets None ∙ is_nets))
    (subst AreInOrder (sym turns) (none_in_order nets))
    (omega (arith, rows, earlier))
    (omega (arith, rows))
    (subst (All (IsRow (node_count_of b.problem.device) (length b.problem.nets))) (sym (ap (λ (h : HistoryTable). h.rows) history))
    (All-nil (IsRow (node_count_of b.problem.device) (length b.problem.nets))))
    marks

pub done_there : (b : Inside) → IsBookInside b → IsFirstWaiting b.turns.turns (length b.problem.nets) None → IsFirstWaiting b.turns.turns (length b.turns.holders) None
done_there b kept done = subst (λ n. IsFirstWaiting b.turns.turns n None) (sym kept.sound.held) done

-- the book after a close
pub closed_kept : (b : Inside) (n : NextIteration) (h : HistoryTable) (t : TurnTable) → IsBookInside b → IsNext (content_of b) n →
    IsFirstWaiting b.turns.turns (length b.turns.holders) None → length b.history.rows < 500 →
    h ≡ record { acc = b.history.acc; rows = b.history.rows ++ n.row ∷ []; histories = arc_value n.histories } → t ≡ table_closed b.turns →
    IsBookInside (record { problem = b.problem; routes = b.routes; history = h; turns = t; marks = b.marks })
closed_kept b n h t kept next done few history turns =
    let IsFormed = λ (row : List Amount). IsRow (node_count_of b.problem.device) (length b.problem.nets) row in
    let grown : HistoryTable = record { acc = b.history.acc; rows = b.history.rows ++ n.row ∷ []; histories = arc_value n.histories } in
    let rows : length h.rows ≡ length b.history.rows + 1 = ap (λ (h : HistoryTable). length h.rows) history ∙ length-append b.history.rows (n.row ∷ []) in
    let earlier : length t.earlier ≡ length b.turns.earlier + 1 =
    ap (λ (t : TurnTable). length t.earlier) turns ∙ length-append b.turns.earlier (b.turns.turns ∷ []) in
    kept_by (record { problem = b.problem; routes = b.routes; history = h; turns = t; marks = b.marks }) (recorded b kept)
    (ap (λ (h : HistoryTable). length h.histories) history ∙ next.size)
    (subst (λ (h : HistoryTable). AreHistories h.acc h.rows h.histories) (sym history) next.exact)
    (ap (λ (t : TurnTable). length t.holders) turns ∙ (length-replicate (length b.turns.holders) None ∙ kept.sound.held))
    (subst AreInOrder (sym turns) (close_in_order b.turns kept.sound.order done))
    (omega (arith, rows, earlier, kept.sound.rows))
    (omega (arith, rows, few))
    (subst (All IsFormed) (sym (ap (λ (h : HistoryTable). h.rows) history))
    (All-push IsFormed b.history.rows n.row kept.sound.formed (subst IsFormed (sym next.row) (row_formed b.problem (lists_of_trees b.routes.trees.items)))))
    kept.marks

-- what a close makes of the content
pub closed_is : (b : Inside) (n : NextIteration) (h : HistoryTable) (t : TurnTable) → IsBookInside b → IsNext (content_of b) n →
    h ≡ record { acc = b.history.acc; rows = b.history.rows ++ n.row ∷ []; histories = arc_value n.histories } → t ≡ table_closed b.turns →
    content_of (record { problem = b.problem; routes = b.routes; history = h; turns = t; marks = b.marks }) ≡ after_close (content_of b)
closed_is b n h t kept next history turns =
    let old = content_of b in
    let grown : HistoryTable = record { acc = b.history.acc; rows = b.history.rows ++ n.row ∷ []; histories = arc_value n.histories } in
    let closed : (rows : List (List Amount)) → (histories : List ℕ) → (holders : List (Option ℕ)) → Content =
    λ rows histories holders. record old { rows = rows; histories = histories; drawn = 0; holders = holders; turns = []; earlier = old.earlier ++ old.turns ∷ [] } in
    let exact : arc_value n.histories ≡ histories_of (node_count_of b.problem.device) b.history.acc (b.history.rows ++ n.row ∷ []) =
    histories_are (node_count_of b.problem.device) b.history.acc (b.history.rows ++ n.row ∷ []) (arc_value n.histories) next.size next.exact in
    ap (λ (h : HistoryTable). content_of (record { problem = b.problem; routes = b.routes; history = h; turns = t; marks = b.marks })) history
    ∙ ap (λ (t : TurnTable). content_of (record { problem = b.problem; routes = b.routes; history = grown; turns = t; marks = b.marks })) turns
    ∙ ap (λ histories. closed (b.history.rows ++ n.row ∷ []) histories (replicate (length b.turns.holders) None)) exact
    ∙ ap (λ row. closed (b.history.rows ++ row ∷ []) (histories_of (node_count_of b.problem.device) b.history.acc (b.history.rows ++ row ∷ [])) (replicate (length b.turns.holders) None)) next.row
    ∙ ap (λ k. closed (b.history.rows ++ row_of b.problem old.lists ∷ []) (histories_of (node_count_of b.problem.device) b.history.acc (b.history.rows ++ row_of b.problem old.lists ∷ [])) (replicate k None)) kept.sound.held
