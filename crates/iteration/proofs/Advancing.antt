-- What stays true of a negotiation from iteration to iteration, and what it comes to in the end.
use Rattle.std.proofs.Common.{◌≡◌, ℕ, ◌+◌, ◌<◌, ◌≤◌, ◌==◌, nat_lt, true, false, ◌&&◌, ◌||◌, [], ◌∷◌, ◌++◌, List, length, None, refl, sym, ap, subst, ◌∙◌, arith, length-append}
use Rattle.std.proofs.lemmas.Bool.Decides.{nat_tests}
use Rattle.routing_problem.specs.Problems.{RoutingProblem}
use Rattle.node_cost.specs.Options.{RouterOptions, present_of}
use Rattle.congestion_book.specs.declared.turn.Turn.{Turn}
use Rattle.congestion_book.specs.Turns.{NameEachOnce, IsFirstWaiting}
use Rattle.route_tree.specs.Usage.{list_in, Lists}
use Rattle.congestion_book.specs.Histories.{row_of}
use Rattle.congestion_book.specs.Contents.{Content, IsSound, IsFresh, opening}
use Rattle.congestion_book.proofs.Soundness.{opening_sound}
use Rattle.net_workers.specs.Searches.{IsStuckNet}
use Rattle.net_workers.specs.Schedules.{TurnRule}
use Rattle.net_workers.proofs.Reports.{stuck_net}
use Rattle.route_check.specs.Routed.{IsRouted}
use Rattle.iteration.specs.declared.outcome.Outcome.{Outcome}
use Rattle.iteration.specs.declared.outcome.Outcome.TheVariants.{Success, NotRouted}
use Rattle.iteration.specs.Progress.{IsIteration, IsReached, begun, followed, goes_on, unrouted_of, overused_of}
use Rattle.iteration.specs.Outcomes.{IsOutcomeOf, EndsNegotiation, IsBookAfter, IsOutcome}
use Rattle.iteration.proofs.Successes.{routed_by}

pub fresh_opening : (c : Content) (p : RoutingProblem) (acc : ℕ) → c ≡ opening p acc → IsFresh c
fresh_opening c p acc is = ap (λ (k : Content). k.drawn) is

pub all_done : (nets : ℕ) (turns : List Turn) → NameEachOnce nets turns → IsFirstWaiting turns nets None
all_done nets turns once i low = let one = once i in grind (arith, nat_tests, one)

-- ---- an iteration
module _ (o : RouterOptions) (workers : ℕ) (allows : TurnRule) (old new : Content) (made : IsIteration o workers allows old new) where
  pub fresh_after : IsFresh new
  fresh_after = ap (λ (k : Content). k.drawn) made.closed

  pub problem_after : new.problem ≡ old.problem
  problem_after = ap (λ (k : Content). k.problem) made.closed ∙ made.agrees.within.problem

  acc_after : new.acc ≡ old.acc
  acc_after = ap (λ (k : Content). k.acc) made.closed ∙ made.agrees.within.acc

  lists_after : new.lists ≡ made.between.lists
  lists_after = ap (λ (k : Content). k.lists) made.closed

  -- the rows are those before, and that of the iteration
  row_after : new.rows ≡ old.rows ++ row_of old.problem new.lists ∷ []
  row_after =
      ap (λ (k : Content). k.rows) made.closed
      ∙ ap (λ (k : List (List (ℕ × ℕ))). k ++ row_of made.between.problem made.between.lists ∷ []) made.agrees.within.rows
      ∙ ap (λ (q : RoutingProblem). old.rows ++ row_of q made.between.lists ∷ []) made.agrees.within.problem
      ∙ ap (λ ls. old.rows ++ row_of old.problem ls ∷ []) (sym lists_after)

  pub rows_after : length new.rows ≡ length old.rows + 1
  rows_after = ap length row_after ∙ length-append old.rows (row_of old.problem new.lists ∷ [])

  -- what has no tree after it is stuck in it
  stuck_after : (i : ℕ) → i < length old.problem.nets → list_in new.lists i ≡ None → IsStuckNet old made.between (present_of o (length old.rows + 1)) o.bb i
  stuck_after i low none =
      let nets : length made.between.problem.nets ≡ length old.problem.nets = ap (λ (q : RoutingProblem). length q.nets) made.agrees.within.problem in
      stuck_net old made.between (present_of o (length old.rows + 1)) o.bb workers made.reports made.agrees i (omega (arith, low, nets))
      (sym (ap (λ ls. list_in ls i) lists_after) ∙ none)

-- ---- where a negotiation may stand
module _ (p : RoutingProblem) (o : RouterOptions) (workers : ℕ) (allows : TurnRule) where
  pub book_reached : (s : Content) → IsReached p o workers allows s → IsBookAfter p o (length s.rows) s
  book_reached _ begun = record { problem = refl; acc = refl; rows = refl }
  book_reached _ (followed old new reached on follows) =
      let before = book_reached old reached in
      record {
        problem = problem_after o workers allows old new follows ∙ before.problem;
        acc = acc_after o workers allows old new follows ∙ before.acc;
        rows = refl;
      }

  sound_reached : (s : Content) → IsReached p o workers allows s → IsSound s
  sound_reached _ begun = opening_sound p o.acc
  sound_reached _ (followed old new reached on follows) = follows.sound

  few_more : (rows u v : ℕ) → (rows == 0 || ((u == 0) && nat_lt 0 v && nat_lt rows o.iterations)) ≡ true → 1 ≤ o.iterations → rows < o.iterations
  few_more rows u v on some = grind (arith, nat_tests)

  pub few_rows : (s : Content) → 1 ≤ o.iterations → goes_on o s ≡ true → length s.rows < o.iterations
  few_rows s some on = few_more (length s.rows) (unrouted_of s) (overused_of s) on some

  early_end : (rows u v : ℕ) → (rows == 0 || ((u == 0) && nat_lt 0 v && nat_lt rows o.iterations)) ≡ false → 1 ≤ u + v → rows < o.iterations → 1 ≤ u
  early_end rows u v ended some low = grind (arith, nat_tests)

  -- the last iteration of a negotiation that ended
  record LastOf (s : Content) : Type 0 where
    before : Content
    reached : IsReached p o workers allows before
    on : goes_on o before ≡ true
    follows : IsIteration o workers allows before s

  last_of : (s : Content) → IsReached p o workers allows s → goes_on o s ≡ false → LastOf s
  last_of _ begun ended = cc
  last_of _ (followed old new reached on follows) ended = record { before = old; reached = reached; on = on; follows = follows }

  module _ (some : 1 ≤ o.iterations) (s : Content) (reached : IsReached p o workers allows s) (ended : goes_on o s ≡ false) where
    last : LastOf s
    last = last_of s reached ended

    more_rows : length s.rows ≡ length last.before.rows + 1
    more_rows = rows_after o workers allows last.before s last.follows

    within : length s.rows ≤ o.iterations
    within = omega (arith, more_rows, few_rows last.before some last.on)

    routes : (lists : Lists) (k : ℕ) → IsOutcomeOf s (Success lists k) → IsOutcome p o (Success lists k)
    routes lists k reported =
        let routed = routed_by s last.follows.sound reported.2 reported.3 in
        let is = book_reached s reached in (
          subst (λ ls. IsRouted p ls) (sym reported.0) (subst (λ q. IsRouted q s.lists) is.problem routed),
          omega (arith, reported.1, more_rows),
          omega (arith, reported.1, within),
        )

    leaves : (u v k : ℕ) → IsOutcomeOf s (NotRouted u v k) → IsOutcome p o (NotRouted u v k)
    leaves u v k reported =
        let is = book_reached s reached in
        let was = book_reached last.before last.reached in
        let now : length last.before.rows + 1 ≡ k = omega (arith, reported.2, more_rows) in
        let nets : length last.before.problem.nets ≡ length p.nets = ap (λ (q : RoutingProblem). length q.nets) was.problem in
        record {
          some = reported.3;
          least = omega (arith, now);
          most = omega (arith, reported.2, within);
          early = λ low. omega (arith, reported.0, early_end (length s.rows) (unrouted_of s) (overused_of s) ended (omega (arith, reported.0, reported.1, reported.3)) (omega (arith, low, reported.2)));
          before = last.before;
          between = last.follows.between;
          book = s;
          begins = record { problem = was.problem; acc = was.acc; rows = omega (arith, now) };
          ends = record { problem = is.problem; acc = is.acc; rows = sym reported.2 };
          sound_before = sound_reached last.before last.reached;
          sound = last.follows.sound;
          closed = last.follows.closed;
          row =
              row_after o workers allows last.before s last.follows
              ∙ ap (λ (q : RoutingProblem). last.before.rows ++ row_of q s.lists ∷ []) was.problem;
          without = sym reported.0;
          over = sym reported.1;
          stuck = λ i low none.
              subst (λ n. IsStuckNet last.before last.follows.between (present_of o n) o.bb i) now
              (stuck_after o workers allows last.before s last.follows i (omega (arith, low, nets)) none);
        }

    tells_outcome : (out : Outcome) → IsOutcomeOf s out → IsOutcome p o out
    tells_outcome (Success lists k) reported = routes lists k reported
    tells_outcome (NotRouted u v k) reported = leaves u v k reported

  pub outcome_of : (out : Outcome) → 1 ≤ o.iterations → EndsNegotiation p o workers allows out → IsOutcome p o out
  outcome_of out some ends = tells_outcome some ends.last ends.reached ends.ended out ends.reported
