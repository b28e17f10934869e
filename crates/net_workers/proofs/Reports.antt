-- What the reports of an iteration tell of a net: one of them has an entry for it, and the net is
-- stuck where the book has no tree of it.
use Rattle.std.proofs.Common.{◌≡◌, inl, inr, ℕ, ◌+◌, ◌<◌, ◌≤◌, ◌==◌, ◌∷◌, [], List, map, get_or, sym, refl, ap, subst, ◌∙◌, arith, Option, None, Some, Bool, true, false, cond}
use Rattle.std.proofs.lemmas.Bool.{cases_eq, eq-eqb, ne_eqb}
use Rattle.std.proofs.lemmas.Bool.Decides.{nat_tests}
use Rattle.std.proofs.lemmas.List.Sums.{sum_by-cons}
use Rattle.std.proofs.lemmas.List.Elements.{All-head, All-tail}
use Rattle.std.specs.Prelude.{All, filter}
use Rattle.route_tree.specs.declared.tree.Row.{Row}
use Rattle.route_tree.specs.TreeLists.{list_of_tree}
use Rattle.wavefront.specs.Growth.{space_of}
use Rattle.congestion_book.specs.declared.turn.Turn.{Turn}
use Rattle.congestion_book.specs.Turns.{one_if, turns_at}
use Rattle.route_tree.specs.Usage.{list_in}
use Rattle.congestion_book.specs.Contents.{Content, net_count}
use Rattle.net_workers.specs.declared.report.ReportEntry.{ReportEntry}
use Rattle.net_workers.specs.Agreement.{Agrees, IsRecorded, reported_turn}
use Rattle.net_workers.specs.Searches.{IsFoundIn, IsFound, IsStuckNet, view_after}

module _ (i : ℕ) where
  next : (t : Turn) (ts : List Turn) → turns_at (t ∷ ts) i ≡ one_if (t.net == i) + turns_at ts i
  next t ts = sum_by-cons (λ (u : Turn). one_if (u.net == i)) t ts

  kept : (b : Bool) (t : Turn) (ts : List Turn) → turns_at ts i ≤ turns_at (cond b (t ∷ ts) ts) i
  kept true t ts = omega (arith, next t ts)
  kept false t ts = omega arith

  -- one of the workers has a turn at the net
  abbrev HasTurn : (workers : ℕ) → List Turn → Type 0
  HasTurn workers ts = (w : ℕ) × (w < workers) × (1 ≤ turns_at (filter (λ t. t.worker == w) ts) i)

  has_turn : (workers : ℕ) (ts : List Turn) → All (λ t. t.worker < workers) ts → 1 ≤ turns_at ts i → HasTurn workers ts
  has_turn workers [] known some = absurd (omega (arith, some))
  has_turn workers (t ∷ ts) known some =
      let by = λ (w : ℕ) (u : Turn). u.worker == w in
      elim (cases_eq t.net i) [
        | inl is ↦
            let own : filter (by t.worker) (t ∷ ts) ≡ t ∷ filter (by t.worker) ts =
            ap (λ b. cond b (t ∷ filter (by t.worker) ts) (filter (by t.worker) ts)) (eq-eqb t.worker t.worker refl) in
            let one : one_if (t.net == i) ≡ 1 = ap one_if (eq-eqb t.net i is) in
            let count : turns_at (filter (by t.worker) (t ∷ ts)) i ≡ turns_at (t ∷ filter (by t.worker) ts) i = ap (λ us. turns_at us i) own in (
              t.worker,
              All-head (λ u. u.worker < workers) t ts known,
              omega (arith, one, count, next t (filter (by t.worker) ts)),
            )
        | inr apart ↦
            let none : one_if (t.net == i) ≡ 0 = ap one_if (ne_eqb t.net i apart) in
            let rest = has_turn workers ts (All-tail (λ u. u.worker < workers) t ts known) (omega (arith, none, some, next t ts)) in
            (rest.0, rest.1, omega (arith, rest.2, kept (t.worker == rest.0) t (filter (by rest.0) ts)))
      ]

  -- a report with a turn at the net has an entry for it
  has_entry : (P : ReportEntry → Type 0) (w : ℕ) (es : List ReportEntry) → All P es → 1 ≤ turns_at (map (reported_turn w) es) i → (e : ReportEntry) × (e.net ≡ i) × P e
  has_entry P w [] all some = absurd (omega (arith, some))
  has_entry P w (e ∷ es) all some = elim (cases_eq e.net i) [
    | inl is ↦ (e, is, All-head P e es all)
    | inr apart ↦
        let none : one_if (e.net == i) ≡ 0 = ap one_if (ne_eqb e.net i apart) in
        has_entry P w es (All-tail P e es all) (omega (arith, none, some, next (reported_turn w e) (map (reported_turn w) es)))
  ]

no_tree : (tree : Option (List Row)) → list_of_tree tree ≡ None → tree ≡ None
no_tree None none = refl
no_tree (Some rows) none = cc

stuck_entry : (old new : Content) (present bb : ℕ) (e : ReportEntry) → IsFound old new present bb e → e.tree ≡ None → IsStuckNet old new present bb e.net
unfolding IsFound IsStuckNet
stuck_entry old new present bb e found none =
    (e.seen, found.0, subst (IsFoundIn (space_of old.problem e.net (view_after old new e.seen e.net) present bb)) none found.1)

module _ (old new : Content) (present bb workers : ℕ) (reports : List (List ReportEntry)) (agrees : Agrees old new present bb workers reports) where
  -- what is true of each entry
  abbrev IsReported : ReportEntry → Type 0
  IsReported e = IsRecorded new e × IsFound old new present bb e

  pub entry_of : (i : ℕ) → i < net_count new → (e : ReportEntry) × (e.net ≡ i) × IsReported e
  entry_of i low =
      let one = agrees.once i in
      let some : 1 ≤ turns_at new.turns i = grind (arith, nat_tests, one) in
      let turn = has_turn i workers new.turns agrees.known some in
      let w = turn.0 in
      let reported = agrees.reported w turn.1 in
      let found = agrees.found w [] (omega (arith, turn.1, agrees.count)) in
      let count : turns_at (filter (λ t. t.worker == w) new.turns) i ≡ turns_at (map (reported_turn w) (get_or reports w [])) i = ap (λ ts. turns_at ts i) reported.turns in
      has_entry i IsReported w (get_or reports w []) (λ k d l. (reported.recorded k d l, found k d l)) (omega (arith, turn.2, count))

  -- a net that was passed is stuck
  pub stuck_net : (i : ℕ) → i < net_count new → list_in new.lists i ≡ None → IsStuckNet old new present bb i
  stuck_net i low none =
      let e = entry_of i low in
      let passed : list_of_tree e.0.tree ≡ None = sym e.2.0 ∙ ap (list_in new.lists) e.1 ∙ none in
      subst (IsStuckNet old new present bb) e.1 (stuck_entry old new present bb e.0 e.2.1 (no_tree e.0.tree passed))
