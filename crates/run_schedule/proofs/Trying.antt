-- The iterations of a trial and the trials of a run are read one after the other.
use Rattle.std.proofs.Common.{◌≡◌, ℕ, ◌+◌, ◌<◌, ◌≤◌, min, true, false, ◌||◌, List, [], ◌∷◌, ◌++◌, length, eqb, Option, None, Some, Result, Ok, Err, codes, refl, sym, ap, subst, ◌∙◌, append_assoc, arith, lit≤}
use Rattle.std.specs.Prelude.{is_some}
use Rattle.std.specs.List.{All}
use Rattle.std.proofs.lemmas.Bool.{eqb-false, eqb-true, false≢true, or_parts}
use Rattle.std.proofs.lemmas.List.{get_or_at, length-append, length_push}
use Rattle.std.proofs.lemmas.List.Elements.{All-nil, All-push}
use Rattle.std.proofs.lemmas.Option.{none-some, same_Some}
use Rattle.gates.specs.declared.schedule.ScheduledTurn.{ScheduledTurn}
use Rattle.node_cost.specs.Options.{most_iterations}
use Rattle.run_schedule.specs.declared.fault.FaultKind.{FaultKind}
use Rattle.run_schedule.specs.declared.fault.FaultKind.TheVariants.{Memory}
use Rattle.routing_problem.specs.Fabric.{most_tracks}
use Rattle.run_schedule.specs.Schedules.{AreTrials, IsIteration, IsTrial, TrialTurns}
use Rattle.run_schedule.specs.kept.Reading.{EndsTrial, is_at_end, is_at_iteration, is_at_trial, is_past_turns, Reads}
use Rattle.run_schedule.specs.ScheduleTexts.{iteration_text, iterations_text, numbered_text, trial_text, trials_text, turns_text}
use Rattle.run_schedule.specs.kept.Taking.{IsWithin, numbered_line, Takes}
use Rattle.run_schedule.proofs.Listing.{Listing, no_item_read, no_other, none_read, one_item_read, ReadsItems}

-- ---- an iteration

abbrev pub IsPast : List ℕ → Type 0
IsPast later = is_past_turns later ≡ true

-- an iteration with its number
abbrev pub IsNumbered : (nets workers number : ℕ) → List ScheduledTurn → Type 0
IsNumbered nets workers number turns = (number ≤ most_iterations) × IsIteration nets workers turns

iteration_split : (number : ℕ) (turns : List ScheduledTurn) (later : List ℕ) → iteration_text number turns ++ later ≡ numbered_line (codes "iteration ") number ++ (turns_text turns ++ later)
unfolding iteration_text numbered_text
iteration_split number turns later = append_assoc (numbered_line (codes "iteration ") number) (turns_text turns) later

-- the one number within these limits
the_number : (number most n : ℕ) → most ≡ min number 500 → IsWithin number most n → (n ≡ number) × (number ≤ 500)
the_number number most n e within = (omega (arith, e, within), omega (arith, e, within))

module _ {number most : ℕ} (limit : most ≡ min number 500) {old mid : List ℕ} {taken : Option ℕ} (title : Takes (IsWithin number most) (numbered_line (codes "iteration ")) old mid taken) where
  -- the title of an iteration that the text begins with
  titled : (turns : List ScheduledTurn) (later : List ℕ) → number ≤ most_iterations → old ≡ iteration_text number turns ++ later → (taken ≡ Some number) × (mid ≡ turns_text turns ++ later)
  titled turns later few is = title.only number (turns_text turns ++ later) (omega (arith, limit), omega (arith, limit, few)) (is ∙ iteration_split number turns later)

  pub no_title : {nets workers : ℕ} {new : List ℕ} {fault : FaultKind} → is_some taken ≡ false → Reads (IsNumbered nets workers number) (iteration_text number) IsPast old new (Err fault)
  no_title none = record { found = tt; only = λ turns later valid past is. absurd (false≢true (sym none ∙ ap is_some (titled turns later valid.0 is).0)) }

  pub turns_after_title : {nets workers : ℕ} {new : List ℕ} {result : Result (List ScheduledTurn) FaultKind} → is_some taken ≡ true → Reads (IsIteration nets workers) turns_text IsPast mid new result
      → Reads (IsNumbered nets workers number) (iteration_text number) IsPast old new result
  turns_after_title {nets} {workers} {new} {result} some read = by taken refl result read
    where
      by : (t : Option ℕ) → taken ≡ t → (r : Result (List ScheduledTurn) FaultKind) → Reads (IsIteration nets workers) turns_text IsPast mid new r → Reads (IsNumbered nets workers number) (iteration_text number) IsPast old new r
      by None e r read = absurd (false≢true (ap is_some (sym e) ∙ some))
      by (Some n) e (Ok turns) read =
          let found = (subst (Takes (IsWithin number most) (numbered_line (codes "iteration ")) old mid) e title).found in
          let this = the_number number most n limit found.0 in
          record {
            found = ((this.1, read.found.0), found.1 ∙ ap (λ k. numbered_line (codes "iteration ") k ++ mid) this.0 ∙ ap (λ (t : List ℕ). numbered_line (codes "iteration ") number ++ t) read.found.1 ∙ sym (iteration_split number turns new));
            only = λ others later valid past is. read.only others later valid.1 past (titled others later valid.0 is).1;
          }
      by (Some n) e (Err fault) read = record { found = tt; only = λ others later valid past is. read.only others later valid.1 past (titled others later valid.0 is).1 }

pub some_read : {X : Type 0} (xs : List X) → eqb (length xs) 0 ≡ false → 1 ≤ length xs
some_read xs e = let apart = eqb-false (length xs) 0 e in omega (arith, apart)

-- all iterations of a trial
pub record AreIterations (nets workers : ℕ) (its : List (List ScheduledTurn)) : Type 0 where
  pub some : 1 ≤ length its
  pub few : length its ≤ most_iterations
  pub each : All (IsIteration nets workers) its

pub at_iteration : (number : ℕ) (turns : List ScheduledTurn) (later : List ℕ) → is_at_iteration (iteration_text number turns ++ later) ≡ true
unfolding iteration_text numbered_text
at_iteration number turns later = refl

pub past_iteration : (number : ℕ) (turns : List ScheduledTurn) (later : List ℕ) → is_past_turns (iteration_text number turns ++ later) ≡ true
unfolding iteration_text numbered_text
past_iteration number turns later = refl

pub one_of : {X : Type 0} (P : X → Type 0) (before : List X) (x : X) (later : List X) → All P (before ++ x ∷ later) → P x
one_of P before x later all =
    subst P (get_or_at before x later x (length before) refl) (all (length before) x (omega (arith, length-append before (x ∷ later))))

abbrev pub iterations : (nets workers : ℕ) → Listing (List ScheduledTurn)
iterations nets workers = record {
  text = iteration_text;
  texts = iterations_text;
  texts_none = λ n. refl;
  texts_some = λ n turns later. refl;
  IsItem = IsNumbered nets workers;
  AreAll = AreIterations nets workers;
  IsBehindItem = IsPast;
  IsBehindAll = EndsTrial;
  one_at_least = λ its all. all.some;
  each = λ before turns later all. (omega (arith, all.few, length-append before (turns ∷ later)), one_of (IsIteration nets workers) before turns later all.each);
  at_item = is_at_iteration;
  begins = at_iteration;
  ends = λ later apart. apart.1;
  behind = λ later apart. apart.0;
  between = past_iteration;
}

-- what was read of a trial of this width
pub record ReadsTrial (nets workers width number : ℕ) (old now : List ℕ) (t : TrialTurns) : Type 0 where
  pub width-is : t.width ≡ width
  pub number-is : number ≡ length t.iterations + 1
  pub few : length t.iterations ≤ most_iterations
  pub each : All (IsIteration nets workers) t.iterations
  pub so_far : ReadsItems (iterations nets workers) old now t.iterations

-- a trial of this width
abbrev pub IsOfWidth : (nets workers width : ℕ) → TrialTurns → Type 0
IsOfWidth nets workers width t = IsTrial nets workers t × (t.width ≡ width)

abbrev pub text_of_iterations : TrialTurns → List ℕ
text_of_iterations t = iterations_text 1 t.iterations

pub no_iteration_read : (nets workers width : ℕ) (old : List ℕ) → ReadsTrial nets workers width 1 old old (record { width = width; iterations = [] })
no_iteration_read nets workers width old = record { width-is = refl; number-is = refl; few = lit≤ tt; each = All-nil (IsIteration nets workers); so_far = none_read (iterations nets workers) old }

all_of : {nets workers width : ℕ} {t : TrialTurns} → IsOfWidth nets workers width t → AreIterations nets workers t.iterations
all_of valid = record { some = valid.0.iterations_least; few = valid.0.iterations; each = valid.0.each }

module _ {nets workers width number : ℕ} {old now : List ℕ} {t : TrialTurns} (r : ReadsTrial nets workers width number old now t) where
  module _ (unfinished : (eqb (length t.iterations) 0 || is_at_iteration now) ≡ true) where
    -- one more iteration was read
    pub iteration_read : {new : List ℕ} {turns : List ScheduledTurn} → Reads (IsNumbered nets workers number) (iteration_text number) IsPast now new (Ok turns)
        → ReadsTrial nets workers width (number + 1) old new (record t { iterations = t.iterations ++ turns ∷ [] })
    iteration_read {new} {turns} read =
        let this = subst (λ k. Reads (IsNumbered nets workers k) (iteration_text k) IsPast now new (Ok turns)) r.number-is read in
        record {
          width-is = r.width-is;
          number-is = omega (arith, r.number-is, length_push t.iterations turns);
          few = omega (arith, this.found.0.0, length_push t.iterations turns);
          each = All-push (IsIteration nets workers) t.iterations turns r.each this.found.0.1;
          so_far = one_item_read r.so_far unfinished this;
        }

    pub iteration_refused : {new : List ℕ} {fault : FaultKind} → Reads (IsNumbered nets workers number) (iteration_text number) IsPast now new (Err fault)
        → Reads (IsOfWidth nets workers width) text_of_iterations EndsTrial old new (Err fault)
    iteration_refused {new} {fault} read =
        let this = subst (λ k. Reads (IsNumbered nets workers k) (iteration_text k) IsPast now new (Err fault)) r.number-is read in
        record { found = tt; only = λ u later valid apart is. no_item_read r.so_far unfinished this u.iterations later (all_of valid) apart is }

  pub trial_read : 1 ≤ width → width ≤ most_tracks → (eqb (length t.iterations) 0 || is_at_iteration now) ≡ false → Reads (IsOfWidth nets workers width) text_of_iterations EndsTrial old now (Ok t)
  trial_read least most finished = record {
    found = (
      (
        record {
          width_least = subst (λ w. 1 ≤ w) (sym r.width-is) least;
          width = subst (λ w. w ≤ most_tracks) (sym r.width-is) most;
          iterations_least = some_read t.iterations (or_parts (eqb (length t.iterations) 0) (is_at_iteration now) finished).0;
          iterations = r.few;
          each = r.each;
        },
        r.width-is,
      ),
      r.so_far.found,
    );
    only = λ u later valid apart is.
        let others = no_other r.so_far finished u.iterations later (all_of valid) apart is in
        let same : t ≡ u = λ i. record { width = (r.width-is ∙ sym valid.1) i; iterations = (sym others.0) i } in
        (same, others.1);
  }

-- nothing is read where memory runs out
pub memory_out : {X : Type 0} {IsValid : X → Type 0} {text_of : X → List ℕ} {IsApart : List ℕ → Type 0} {old new : List ℕ} {fault : FaultKind} → fault ≡ Memory → Reads IsValid text_of IsApart old new (Err fault)
memory_out is = record { found = tt; only = λ x later valid apart e. is }

pub iteration_shorter : (number : ℕ) (turns : List ScheduledTurn) (old new : List ℕ) → old ≡ iteration_text number turns ++ new → length new < length old
unfolding iteration_text numbered_text
iteration_shorter number turns old new is = omega (arith, simp length-append at (ap length is))

-- ---- trials

pub at_trial : (t : TrialTurns) (later : List ℕ) → is_at_trial (trial_text t ++ later) ≡ true
unfolding trial_text numbered_text
at_trial t later = refl

pub trial_ends : (t : TrialTurns) (later : List ℕ) → EndsTrial (trial_text t ++ later)
unfolding trial_text numbered_text
trial_ends t later = (refl, refl)

pub end_ends : (later : List ℕ) → is_at_end later ≡ true → EndsTrial later × (is_at_trial later ≡ false)
end_ends [] e = absurd (false≢true e)
end_ends (b ∷ later) e = rw (eqb-true b 101 e) ((refl, refl), refl)

abbrev pub trials : (nets workers : ℕ) → Listing TrialTurns
trials nets workers = record {
  text = λ n t. trial_text t;
  texts = λ n ts. trials_text ts;
  texts_none = λ n. refl;
  texts_some = λ n t later. refl;
  IsItem = λ n t. IsTrial nets workers t;
  AreAll = AreTrials nets workers;
  IsBehindItem = EndsTrial;
  IsBehindAll = λ later. is_at_end later ≡ true;
  one_at_least = λ ts all. all.some;
  each = λ before t later all. one_of (IsTrial nets workers) before t later all.each;
  at_item = is_at_trial;
  begins = λ n t later. at_trial t later;
  ends = λ later apart. (end_ends later apart).1;
  behind = λ later apart. (end_ends later apart).0;
  between = λ n t later. trial_ends t later;
}

-- what was read of the trials of a run
pub record ReadsRun (nets workers : ℕ) (old now : List ℕ) (ts : List TrialTurns) : Type 0 where
  pub each : All (IsTrial nets workers) ts
  pub so_far : ReadsItems (trials nets workers) old now ts

abbrev pub IsEnd : List ℕ → Type 0
IsEnd later = is_at_end later ≡ true

pub no_trial_read : (nets workers : ℕ) (old : List ℕ) → ReadsRun nets workers old old []
no_trial_read nets workers old = record { each = All-nil (IsTrial nets workers); so_far = none_read (trials nets workers) old }

module _ {nets workers : ℕ} {old now : List ℕ} {ts : List TrialTurns} (r : ReadsRun nets workers old now ts) where
  module _ (unfinished : (eqb (length ts) 0 || is_at_trial now) ≡ true) where
    -- one more trial was read
    pub one_trial_read : {new : List ℕ} {t : TrialTurns} → Reads (IsTrial nets workers) trial_text EndsTrial now new (Ok t) → ReadsRun nets workers old new (ts ++ t ∷ [])
    one_trial_read {new} {t} read = record { each = All-push (IsTrial nets workers) ts t r.each read.found.0; so_far = one_item_read r.so_far unfinished read }

    pub trial_refused : {new : List ℕ} {fault : FaultKind} → Reads (IsTrial nets workers) trial_text EndsTrial now new (Err fault) → Reads (AreTrials nets workers) trials_text IsEnd old new (Err fault)
    trial_refused read = record { found = tt; only = λ all later valid apart is. no_item_read r.so_far unfinished read all later valid apart is }

  pub run_read : (eqb (length ts) 0 || is_at_trial now) ≡ false → Reads (AreTrials nets workers) trials_text IsEnd old now (Ok ts)
  run_read finished = record {
    found = (record { some = some_read ts (or_parts (eqb (length ts) 0) (is_at_trial now) finished).0; each = r.each }, r.so_far.found);
    only = λ all later valid apart is. let others = no_other r.so_far finished all later valid apart is in (sym others.0, others.1);
  }

pub trial_shorter : (t : TrialTurns) (old new : List ℕ) → old ≡ trial_text t ++ new → length new < length old
unfolding trial_text numbered_text
trial_shorter t old new is = omega (arith, simp length-append at (ap length is))

-- ---- a trial

width_split : (t : TrialTurns) (later : List ℕ) → trial_text t ++ later ≡ numbered_line (codes "width ") t.width ++ (text_of_iterations t ++ later)
unfolding trial_text numbered_text
width_split t later = append_assoc (numbered_line (codes "width ") t.width) (iterations_text 1 t.iterations) later

module _ {old mid : List ℕ} where
  pub no_width : {nets workers : ℕ} {new : List ℕ} {fault : FaultKind} → Takes (IsWithin 1 most_tracks) (numbered_line (codes "width ")) old mid None → Reads (IsTrial nets workers) trial_text EndsTrial old new (Err fault)
  no_width title = record {
    found = tt;
    only = λ t later valid apart is. absurd (none-some t.width (title.only t.width _ (valid.width_least, valid.width) (is ∙ width_split t later)).0);
  }

  pub after_width : {nets workers width : ℕ} {new : List ℕ} {result : Result TrialTurns FaultKind} → Takes (IsWithin 1 most_tracks) (numbered_line (codes "width ")) old mid (Some width)
      → Reads (IsOfWidth nets workers width) text_of_iterations EndsTrial mid new result → Reads (IsTrial nets workers) trial_text EndsTrial old new result
  after_width {nets} {workers} {width} {new} {result} title read = by result read
    where
      -- the width of a trial that the text begins with
      titled : (t : TrialTurns) (later : List ℕ) → IsTrial nets workers t → old ≡ trial_text t ++ later → (width ≡ t.width) × (mid ≡ text_of_iterations t ++ later)
      titled t later valid is = let o = title.only t.width _ (valid.width_least, valid.width) (is ∙ width_split t later) in (same_Some width t.width o.0, o.1)

      by : (r : Result TrialTurns FaultKind) → Reads (IsOfWidth nets workers width) text_of_iterations EndsTrial mid new r → Reads (IsTrial nets workers) trial_text EndsTrial old new r
      by (Ok t) read = record {
        found = (read.found.0.0, title.found.1 ∙ ap (λ w. numbered_line (codes "width ") w ++ mid) (sym read.found.0.1) ∙ ap (λ (s : List ℕ). numbered_line (codes "width ") t.width ++ s) read.found.1 ∙ sym (width_split t new));
        only = λ u later valid apart is. let this = titled u later valid is in read.only u later (valid, sym this.0) apart this.1;
      }
      by (Err fault) read = record { found = tt; only = λ u later valid apart is. let this = titled u later valid is in read.only u later (valid, sym this.0) apart this.1 }
