-- The turns of an iteration are read one after the other.
use Rattle.std.proofs.Common.{◌≡◌, ◌≢◌, ℕ, ◌^◌, ◌<◌, ◌≤◌, true, false, not, ◌||◌, List, [], ◌∷◌, ◌++◌, length, get_or, eqb, nat_le, Option, Some, Result, Ok, Err, codes, decimal, refl, sym, ap, subst, ◌∙◌, append_assoc, arith}
use Rattle.std.specs.Prelude.{MatchResult}
use Rattle.std.specs.List.{list_any}
use Rattle.std.proofs.lemmas.Bool.{and_parts, false≢true, leb-true, ne_eqb, not-false, or_parts}
use Rattle.std.proofs.lemmas.Fmt.{decimal_nonempty}
use Rattle.std.proofs.lemmas.Grind.{flat_map-append}
use Rattle.std.proofs.lemmas.List.{append-nil, get_or_append_left, get_or_at, length-append}
use Rattle.std.proofs.lemmas.Option.{same_Some}
use Rattle.vpr_text.specs.Numbers.{is_digit}
use Rattle.gates.specs.declared.schedule.ScheduledTurn.{ScheduledTurn}
use Rattle.run_schedule.specs.declared.fault.FaultKind.{FaultKind}
use Rattle.run_schedule.specs.Schedules.{AreTurns, IsIteration}
use Rattle.run_schedule.specs.kept.Made.{MayFollow, none_made, TurnsMade, with_turn}
use Rattle.run_schedule.specs.kept.Reading.{is_past_turns, Reads}
use Rattle.run_schedule.specs.ScheduleTexts.{turn_text, turns_text}
use Rattle.run_schedule.specs.kept.Taking.{IsAny, IsReadable, Takes}
use Rattle.run_schedule.proofs.Numbers.{no_others}

-- a turn that was taken and may follow
pub turn_read : {m : TurnsMade} {old new : List ℕ} {told : Option ScheduledTurn} (t : ScheduledTurn) → Takes IsReadable turn_text old new told → ((u : ScheduledTurn) → MayFollow m u → IsReadable u)
    → told ≡ Some t → MayFollow m t → Reads (MayFollow m) turn_text IsAny old new (Ok t)
turn_read {m} {old} {new} {told} t taken readable is follows =
    let this = subst (Takes IsReadable turn_text old new) is taken in
    record {
      found = (follows, this.found.1);
      only = λ u later valid apart e. let o = this.only u later (readable u valid) e in (same_Some t u o.0, o.1);
    }

-- ---- what follows in an iteration

follows_at : {nets workers : ℕ} (before : List ScheduledTurn) (t : ScheduledTurn) (later : List ScheduledTurn) → AreTurns nets workers (before ++ t ∷ later)
    → MayFollow (record { nets = nets; workers = workers; turns = before }) t
follows_at {nets} {workers} before t later turns =
    let whole = before ++ t ∷ later in
    let here : get_or whole (length before) t ≡ t = get_or_at before t later t (length before) refl in
    let within : length before < length whole = omega (arith, length-append before (t ∷ later)) in
    let earlier : (k : ℕ) (d : ScheduledTurn) → k < length before → get_or before k d ≡ get_or whole k d = λ k d l. sym (get_or_append_left before (t ∷ later) d k l) in
    record {
      net = subst (λ s. s.net < nets) here (turns.of_nets (length before) t within);
      first = λ k d l. subst (λ s. s.net ≢ t.net) (sym (earlier k d l)) (subst (λ s. (get_or whole k d).net ≢ s.net) (get_or_at before t later d (length before) refl) (turns.once k (length before) d l within));
      worker = subst (λ s. s.worker < workers) here (turns.by_workers (length before) t within);
      seen = subst (λ s. s.seen ≤ length before) here (turns.seen (length before) t within);
      grows = λ k d l. subst (λ s. s.worker ≡ t.worker → s.seen ≤ t.seen) (sym (earlier k d l))
          (subst (λ s. (get_or whole k d).worker ≡ s.worker → (get_or whole k d).seen ≤ s.seen) (get_or_at before t later d (length before) refl) (turns.grows k (length before) d l within));
    }

-- ---- texts

not_past : (b : ℕ) → is_digit b ≡ true → (eqb b 105 || (eqb b 119 || eqb b 101)) ≡ false
not_past b digit =
    let low : b ≤ 57 = leb-true b 57 (and_parts (nat_le 48 b) (nat_le b 57) digit).1 in
    rw (ne_eqb b 105 (λ e. absurd (omega (arith, low, e))), ne_eqb b 119 (λ e. absurd (omega (arith, low, e))), ne_eqb b 101 (λ e. absurd (omega (arith, low, e)))) refl

digits_first : (digits later : List ℕ) → 0 < length digits → list_any (λ b. not (is_digit b)) digits ≡ false → is_past_turns (digits ++ later) ≡ false
digits_first [] later some all = absurd (omega (arith, some))
digits_first (b ∷ bs) later some all = not_past b (not-false (is_digit b) (or_parts (not (is_digit b)) (list_any (λ b. not (is_digit b)) bs) all).0)

-- a turn doesn't begin as what ends the turns
at_turn : (t : ScheduledTurn) (later : List ℕ) → t.net < 2 ^ 32 → is_past_turns (turn_text t ++ later) ≡ false
unfolding turn_text
at_turn t later small =
    let behind = codes " " ++ (decimal t.worker ++ (codes " " ++ (decimal t.seen ++ codes "\n"))) in
    ap is_past_turns (append_assoc (decimal t.net) behind later)
    ∙ digits_first (decimal t.net) (behind ++ later) (decimal_nonempty t.net (omega (arith, small))) (no_others t.net small)

-- a text is longer than what is behind its first turn
pub turn_shorter : (t : ScheduledTurn) (old new : List ℕ) → old ≡ turn_text t ++ new → length new < length old
unfolding turn_text
turn_shorter t old new is = omega (arith, simp length-append at (ap length is))

turns_push : (turns : List ScheduledTurn) (t : ScheduledTurn) → turns_text (turns ++ t ∷ []) ≡ turns_text turns ++ turn_text t
turns_push turns t = flat_map-append turn_text turns (t ∷ []) ∙ ap (λ (s : List ℕ). turns_text turns ++ s) (append-nil (turn_text t))

-- the turns that were read, of an iteration that the text may begin with
pub record ReadsTurns (nets workers : ℕ) (old now : List ℕ) (m : TurnsMade) : Type 0 where
  pub nets-are : m.nets ≡ nets
  pub workers-are : m.workers ≡ workers
  pub found : old ≡ turns_text m.turns ++ now
  pub only : (turns : List ScheduledTurn) (later : List ℕ) → IsIteration nets workers turns → is_past_turns later ≡ true → old ≡ turns_text turns ++ later
      → (rest : List ScheduledTurn) × (turns ≡ m.turns ++ rest) × (now ≡ turns_text rest ++ later)

pub no_turns_read : (nets workers : ℕ) (old : List ℕ) → ReadsTurns nets workers old old (none_made nets workers)
no_turns_read nets workers old = record { nets-are = refl; workers-are = refl; found = refl; only = λ turns later whole past is. (turns, refl, is) }

module _ {nets workers : ℕ} (limit : nets < 2 ^ 32) {old now : List ℕ} {m : TurnsMade} (so_far : ReadsTurns nets workers old now m) where
  -- the next turn, where not all are read
  next_turn : is_past_turns now ≡ false → (turns : List ScheduledTurn) (later : List ℕ) → IsIteration nets workers turns → is_past_turns later ≡ true → old ≡ turns_text turns ++ later
      → (t : ScheduledTurn) × (rest : List ScheduledTurn) × (turns ≡ m.turns ++ t ∷ rest) × (now ≡ turn_text t ++ (turns_text rest ++ later)) × MayFollow m t
  next_turn unfinished turns later whole past is = let left = so_far.only turns later whole past is in by left.0 left.1 left.2
    where
      by : (rest : List ScheduledTurn) → turns ≡ m.turns ++ rest → now ≡ turns_text rest ++ later
          → (t : ScheduledTurn) × (rest : List ScheduledTurn) × (turns ≡ m.turns ++ t ∷ rest) × (now ≡ turn_text t ++ (turns_text rest ++ later)) × MayFollow m t
      by [] e n = absurd (false≢true (sym unfinished ∙ (ap is_past_turns n ∙ past)))
      by (t ∷ rest) e n =
          let follows = follows_at m.turns t rest (subst (AreTurns nets workers) e whole.made) in (
            t,
            rest,
            e,
            n ∙ append_assoc (turn_text t) (turns_text rest) later,
            subst (λ k. MayFollow (record { nets = k; workers = m.workers; turns = m.turns }) t) (sym so_far.nets-are)
                (subst (λ k. MayFollow (record { nets = nets; workers = k; turns = m.turns }) t) (sym so_far.workers-are) follows),
          )

  pub one_turn_read : {new : List ℕ} {t : ScheduledTurn} → is_past_turns now ≡ false → Reads (MayFollow m) turn_text IsAny now new (Ok t) → ReadsTurns nets workers old new (with_turn m t)
  one_turn_read {new} {t} unfinished read = record {
    nets-are = so_far.nets-are;
    workers-are = so_far.workers-are;
    found = so_far.found ∙ ap (λ (s : List ℕ). turns_text m.turns ++ s) read.found.1 ∙ sym (append_assoc (turns_text m.turns) (turn_text t) new) ∙ ap (λ (s : List ℕ). s ++ new) (sym (turns_push m.turns t));
    only = λ turns later whole past is.
        let (u, rest, e, n, follows) = next_turn unfinished turns later whole past is in
        let this = read.only u (turns_text rest ++ later) follows tt n in
        (rest, e ∙ ap (λ s. m.turns ++ s ∷ rest) (sym this.0) ∙ sym (append_assoc m.turns (t ∷ []) rest), this.1);
  }

  pub no_turn_read : {new : List ℕ} {fault : FaultKind} → is_past_turns now ≡ false → Reads (MayFollow m) turn_text IsAny now new (Err fault)
      → Reads (IsIteration nets workers) turns_text (λ later. is_past_turns later ≡ true) old new (Err fault)
  no_turn_read {new} {fault} unfinished read = record {
    found = tt;
    only = λ turns later whole past is. let (u, rest, e, n, follows) = next_turn unfinished turns later whole past is in read.only u (turns_text rest ++ later) follows tt n;
  }

  -- the turns of an iteration that the text may begin with, where all are read
  no_other : is_past_turns now ≡ true → (turns : List ScheduledTurn) (later : List ℕ) → IsIteration nets workers turns → is_past_turns later ≡ true → old ≡ turns_text turns ++ later → (turns ≡ m.turns) × (now ≡ later)
  no_other finished turns later whole past is = let left = so_far.only turns later whole past is in by left.0 left.1 left.2
    where
      by : (rest : List ScheduledTurn) → turns ≡ m.turns ++ rest → now ≡ turns_text rest ++ later → (turns ≡ m.turns) × (now ≡ later)
      by [] e n = (e ∙ append-nil m.turns, n)
      by (t ∷ rest) e n =
          let follows = follows_at m.turns t rest (subst (AreTurns nets workers) e whole.made) in
          let n' = n ∙ append_assoc (turn_text t) (turns_text rest) later in
          absurd (false≢true (sym (ap is_past_turns n' ∙ at_turn t (turns_text rest ++ later) (omega (arith, follows.net, limit))) ∙ finished))

  pub all_turns_read : is_past_turns now ≡ true → (result : Result (List ScheduledTurn) FaultKind) → MatchResult result (λ turns. (turns ≡ m.turns) × IsIteration m.nets m.workers turns) (λ _. IsIteration m.nets m.workers m.turns → ⊥)
      → Reads (IsIteration nets workers) turns_text (λ later. is_past_turns later ≡ true) old now result
  all_turns_read finished (Ok turns) whole = record {
    found = (subst (λ n. IsIteration n workers turns) so_far.nets-are (subst (λ w. IsIteration m.nets w turns) so_far.workers-are whole.1), so_far.found ∙ ap (λ ts. turns_text ts ++ now) (sym whole.0));
    only = λ others later valid past is. let o = no_other finished others later valid past is in (whole.0 ∙ sym o.0, o.1);
  }
  all_turns_read finished (Err fault) never = record {
    found = tt;
    only = λ others later valid past is.
        let o = no_other finished others later valid past is in
        let made = subst (IsIteration nets workers) o.0 valid in
        absurd (never (subst (λ n. IsIteration n m.workers m.turns) (sym so_far.nets-are) (subst (λ w. IsIteration nets w m.turns) (sym so_far.workers-are) made)));
  }
