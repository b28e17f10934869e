-- The head of a schedule is read, and what is behind it.
use Rattle.std.proofs.Common.{◌≡◌, ℕ, ◌-◌, true, false, List, [], ◌++◌, length, take, Option, None, Some, Ok, Err, codes, refl, sym, ap, subst, ◌∙◌, append_assoc, arith}
use Rattle.std.specs.Option.{ok_or}
use Rattle.std.specs.Result.{result_ok}
use Rattle.std.proofs.lemmas.Bool.{false≢true}
use Rattle.std.proofs.lemmas.List.{append_cancel_right, length-append, take_at}
use Rattle.std.proofs.lemmas.Option.{none-some, same_Some}
use Rattle.node_cost.specs.Options.{most_workers}
use Rattle.run_schedule.specs.declared.fault.FaultKind.{FaultKind}
use Rattle.run_schedule.specs.declared.schedule.Counts.{Counts}
use Rattle.run_schedule.specs.Heads.{IsHead, IsHeadRest, IsTitle, most_nets, title_text}
use Rattle.run_schedule.specs.Runs.{IsSchedule, RunTurns, text_of_run}
use Rattle.run_schedule.specs.Schedules.{AreTrials, TrialTurns}
use Rattle.run_schedule.specs.kept.Reading.{ReadsAll}
use Rattle.run_schedule.specs.HeadLines.{amount_text, entry_text}
use Rattle.run_schedule.specs.ScheduleTexts.{end_text, schedule_text, titles_text, trials_text}
use Rattle.run_schedule.specs.Lines.{AreNotes, IsInLine, line_text, notes_text}
use Rattle.run_schedule.specs.kept.Taking.{IsAny, IsWithin, numbered_line, Passes, Takes, TakesSome}

-- ---- the first two lines

title_split : (t : List ℕ × List ℕ) (later : List ℕ) → title_text t ++ later ≡ line_text (codes "# pathfinder ") t.0 ++ (line_text (codes "# schedule of ") t.1 ++ later)
unfolding entry_text
title_split t later = append_assoc (line_text (codes "# pathfinder ") t.0) (line_text (codes "# schedule of ") t.1) later

module _ {old mid : List ℕ} where
  pub no_program : {new : List ℕ} → Passes IsInLine (line_text (codes "# pathfinder ")) old mid None → Passes IsTitle title_text old new None
  no_program missing = record {
    found = λ some. absurd (false≢true some);
    only = λ t later valid is. absurd (false≢true (missing.only t.0 _ valid.0 (is ∙ title_split t later)).0);
  }

  pub run_passed : {new : List ℕ} {result : Option (Unit {0})} → Passes IsInLine (line_text (codes "# pathfinder ")) old mid (Some tt) → Passes IsInLine (line_text (codes "# schedule of ")) mid new result → Passes IsTitle title_text old new result
  run_passed program run = record {
    found = λ some.
        let p = program.found refl in
        let r = run.found some in
        ((p.0, r.0), (p.1, r.1), p.2 ∙ ap (λ (t : List ℕ). line_text (codes "# pathfinder ") p.0 ++ t) r.2 ∙ sym (title_split (p.0, r.0) _));
    only = λ t later valid is. run.only t.1 later valid.1 (program.only t.0 _ valid.0 (is ∙ title_split t later)).1;
  }

-- ---- the lines behind them

abbrev pub rest_text : (sums : List (List ℕ)) (workers : ℕ) (choices : List (List ℕ)) (nets : ℕ) → List ℕ
rest_text sums workers choices nets = notes_text sums ++ (amount_text (codes "workers") workers [] ++ (notes_text choices ++ amount_text (codes "nets") nets []))

rest_split : (sums : List (List ℕ)) (workers : ℕ) (choices : List (List ℕ)) (nets : ℕ) (later : List ℕ)
    → rest_text sums workers choices nets ++ later
    ≡ notes_text sums ++ (numbered_line (codes "# workers ") workers ++ (notes_text choices ++ (numbered_line (codes "# nets ") nets ++ later)))
unfolding amount_text
rest_split sums workers choices nets later =
    let w = numbered_line (codes "# workers ") workers in
    let n = numbered_line (codes "# nets ") nets in
    append_assoc (notes_text sums) (w ++ (notes_text choices ++ n)) later
    ∙ ap (λ (t : List ℕ). notes_text sums ++ t) (append_assoc w (notes_text choices ++ n) later ∙ ap (λ (t : List ℕ). w ++ t) (append_assoc (notes_text choices) n later))

abbrev pub IsRest : Counts → List ℕ → Type 0
IsRest c text = IsHeadRest c.workers c.nets text

rest_is : {c : Counts} {text : List ℕ} (h : IsHeadRest c.workers c.nets text) (old later : List ℕ) → old ≡ text ++ later
    → old ≡ notes_text h.sums ++ (numbered_line (codes "# workers ") c.workers ++ (notes_text h.choices ++ (numbered_line (codes "# nets ") c.nets ++ later)))
rest_is {c} {text} h old later is = is ∙ ap (λ (t : List ℕ). t ++ later) h.lines ∙ rest_split h.sums c.workers h.choices c.nets later

-- nothing is taken where the text begins with that of no value
takes_nothing : {X : Type 0} {IsText : X → List ℕ → Type 0} {old new : List ℕ} → ((x : X) (text later : List ℕ) → IsText x text → old ≡ text ++ later → ⊥) → TakesSome IsText old new None
takes_nothing never = record { found = tt; only = λ x text later valid is. absurd (never x text later valid is) }

module _ {old : List ℕ} where
  pub no_sums : {mid new : List ℕ} → Passes (AreNotes 3) notes_text old mid None → TakesSome IsRest old new None
  no_sums missing = takes_nothing (λ c text later h is. false≢true (missing.only h.sums _ h.three (rest_is h old later is)).0)

  module _ {behind_sums : List ℕ} (sums : Passes (AreNotes 3) notes_text old behind_sums (Some tt)) where
    sums_is : (c : Counts) (text later : List ℕ) (h : IsHeadRest c.workers c.nets text) → old ≡ text ++ later
        → behind_sums ≡ numbered_line (codes "# workers ") c.workers ++ (notes_text h.choices ++ (numbered_line (codes "# nets ") c.nets ++ later))
    sums_is c text later h is = (sums.only h.sums _ h.three (rest_is h old later is)).1

    pub no_workers : {mid new : List ℕ} → Takes (IsWithin 1 most_workers) (numbered_line (codes "# workers ")) behind_sums mid None → TakesSome IsRest old new None
    no_workers missing = takes_nothing (λ c text later h is. none-some c.workers (missing.only c.workers _ (h.workers_least, h.workers_most) (sums_is c text later h is)).0)

    module _ {behind_workers : List ℕ} {w : ℕ} (workers : Takes (IsWithin 1 most_workers) (numbered_line (codes "# workers ")) behind_sums behind_workers (Some w)) where
      workers_is : (c : Counts) (text later : List ℕ) (h : IsHeadRest c.workers c.nets text) → old ≡ text ++ later
          → (w ≡ c.workers) × (behind_workers ≡ notes_text h.choices ++ (numbered_line (codes "# nets ") c.nets ++ later))
      workers_is c text later h is =
          let o = workers.only c.workers _ (h.workers_least, h.workers_most) (sums_is c text later h is) in
          (same_Some w c.workers o.0, o.1)

      pub no_choices : {mid new : List ℕ} → Passes (AreNotes 6) notes_text behind_workers mid None → TakesSome IsRest old new None
      no_choices missing = takes_nothing (λ c text later h is. false≢true (missing.only h.choices _ h.six (workers_is c text later h is).1).0)

      module _ {behind_choices : List ℕ} (choices : Passes (AreNotes 6) notes_text behind_workers behind_choices (Some tt)) where
        choices_is : (c : Counts) (text later : List ℕ) (h : IsHeadRest c.workers c.nets text) → old ≡ text ++ later → behind_choices ≡ numbered_line (codes "# nets ") c.nets ++ later
        choices_is c text later h is = (choices.only h.choices _ h.six (workers_is c text later h is).1).1

        pub no_nets : {mid new : List ℕ} → Takes (IsWithin 0 most_nets) (numbered_line (codes "# nets ")) behind_choices mid None → TakesSome IsRest old new None
        no_nets missing = takes_nothing (λ c text later h is. none-some c.nets (missing.only c.nets later (omega arith, h.nets_most) (choices_is c text later h is)).0)

        pub counts_taken : {new : List ℕ} {n : ℕ} → Takes (IsWithin 0 most_nets) (numbered_line (codes "# nets ")) behind_choices new (Some n) → TakesSome IsRest old new (Some (record { workers = w; nets = n }))
        counts_taken {new} {n} nets =
            let s = sums.found refl in
            let c = choices.found refl in
            record {
              found = (
                rest_text s.0 w c.0 n,
                record { sums = s.0; choices = c.0; three = s.1; six = c.1; workers_least = workers.found.0.0; workers_most = workers.found.0.1; nets_most = nets.found.0.1; lines = refl },
                s.2 ∙ ap (λ (t : List ℕ). notes_text s.0 ++ t) (workers.found.1 ∙ ap (λ (t : List ℕ). numbered_line (codes "# workers ") w ++ t) (c.2 ∙ ap (λ (t : List ℕ). notes_text c.0 ++ t) nets.found.1))
                    ∙ sym (rest_split s.0 w c.0 n new),
              );
              only = λ d text later h is.
                  let o = nets.only d.nets later (omega arith, h.nets_most) (choices_is d text later h is) in
                  let same : record { workers = w; nets = n } ≡ d = λ i. record { workers = (workers_is d text later h is).0 i; nets = (same_Some n d.nets o.0) i } in
                  (ap Some same, o.1);
            }

-- ---- a whole head

abbrev pub IsHeadOf : Counts → List ℕ → Type 0
IsHeadOf c text = IsHead c.workers c.nets text

head_is : {c : Counts} {text : List ℕ} (h : IsHead c.workers c.nets text) (old later : List ℕ) → old ≡ text ++ later → old ≡ title_text h.title ++ (h.rest ++ later)
head_is {c} {text} h old later is = is ∙ ap (λ (t : List ℕ). t ++ later) h.lines ∙ append_assoc (title_text h.title) h.rest later

pub ok_of : {X : Type 0} (fault : FaultKind) (o : Option X) → result_ok (ok_or o fault) ≡ o
ok_of fault None = refl
ok_of fault (Some x) = refl

module _ {old mid : List ℕ} where
  pub no_head : {new : List ℕ} → Passes IsTitle title_text old mid None → TakesSome IsHeadOf old new None
  no_head missing = takes_nothing (λ c text later h is. false≢true (missing.only h.title (h.rest ++ later) h.title_lines (head_is h old later is)).0)

  pub head_taken : {new : List ℕ} {result : Option Counts} → Passes IsTitle title_text old mid (Some tt) → TakesSome IsRest mid new result → TakesSome IsHeadOf old new result
  head_taken {new} {result} title rest = by result rest
    where
      by : (r : Option Counts) → TakesSome IsRest mid new r → TakesSome IsHeadOf old new r
      by None rest = takes_nothing (λ c text later h is. none-some c (rest.only c h.rest later h.rest_lines (title.only h.title (h.rest ++ later) h.title_lines (head_is h old later is)).1).0)
      by (Some c) rest =
          let t = title.found refl in
          let (lines, are, is) = rest.found in
          record {
            found = (
              title_text t.0 ++ lines,
              record { title = t.0; rest = lines; title_lines = t.1; rest_lines = are; lines = refl },
              t.2 ∙ ap (λ (s : List ℕ). title_text t.0 ++ s) is ∙ sym (append_assoc (title_text t.0) lines new),
            );
            only = λ d text later h e. rest.only d h.rest later h.rest_lines (title.only h.title (h.rest ++ later) h.title_lines (head_is h old later e)).1;
          }

-- ---- what is behind the head

pub no_end : {old new : List ℕ} → Takes {X = Unit {0}} IsAny (λ _. end_text) old new None → (false ≡ true → old ≡ end_text) × (old ≡ end_text → false ≡ true)
no_end missing = (λ ok. absurd (false≢true ok), λ is. absurd (none-some tt (missing.only tt [] tt is).0))

module _ {nets workers : ℕ} {old new : List ℕ} where
  pub no_titles : {fault : FaultKind} → Takes {X = Unit {0}} IsAny (λ _. titles_text) old new None → ReadsAll (AreTrials nets workers) (λ ts. titles_text ++ (trials_text ts ++ end_text)) old (Err fault)
  no_titles missing = record { found = tt; only = λ ts valid is. absurd (none-some tt (missing.only tt _ tt is).0) }

-- ---- a whole schedule

abbrev pub body_text : List TrialTurns → List ℕ
body_text ts = titles_text ++ (trials_text ts ++ end_text)

run_split : (s : RunTurns) → text_of_run s ≡ s.head ++ body_text s.trials
unfolding schedule_text
run_split s = refl

pub headless : {old mid : List ℕ} {fault : FaultKind} → TakesSome IsHeadOf old mid None → ReadsAll IsSchedule text_of_run old (Err fault)
headless missing = record {
  found = tt;
  only = λ s valid is.
      let c : Counts = record { workers = s.workers; nets = s.nets } in
      absurd (none-some c (missing.only c s.head (body_text s.trials) valid.head (is ∙ run_split s)).0);
}

module _ {old mid : List ℕ} where
  module _ {c : Counts} (head : TakesSome IsHeadOf old mid (Some c)) where
    -- a schedule whose text this is
    run_is : (s : RunTurns) → IsSchedule s → old ≡ text_of_run s → (c ≡ record { workers = s.workers; nets = s.nets }) × (mid ≡ body_text s.trials)
    run_is s valid is =
        let o = head.only (record { workers = s.workers; nets = s.nets }) s.head (body_text s.trials) valid.head (is ∙ run_split s) in
        (same_Some c (record { workers = s.workers; nets = s.nets }) o.0, o.1)

    pub bodiless : {fault : FaultKind} → ReadsAll (AreTrials c.nets c.workers) body_text mid (Err fault) → ReadsAll IsSchedule text_of_run old (Err fault)
    bodiless body = record {
      found = tt;
      only = λ s valid is. let (counts, e) = run_is s valid is in body.only s.trials (subst (λ (d : Counts). AreTrials d.nets d.workers s.trials) (sym counts) valid.trials) e;
    }

    -- what stands before the rest of a text is its head
    pub front_is : (lines : List ℕ) → lines ≡ take (length old - length mid) old → IsHead c.workers c.nets lines × (old ≡ lines ++ mid)
    front_is lines e =
        let (text, is_head, is) = head.found in
        let cut : length text ≡ length old - length mid = omega (arith, length-append text mid, ap length is) in
        let same : lines ≡ text = e ∙ ap (take (length old - length mid)) is ∙ take_at text mid (length old - length mid) cut in
        (subst (IsHead c.workers c.nets) (sym same) is_head, is ∙ ap (λ (t : List ℕ). t ++ mid) (sym same))

    pub whole_read : (lines : List ℕ) (ts : List TrialTurns) → lines ≡ take (length old - length mid) old → ReadsAll (AreTrials c.nets c.workers) body_text mid (Ok ts)
        → ReadsAll IsSchedule text_of_run old (Ok (record { head = lines; workers = c.workers; nets = c.nets; trials = ts }))
    whole_read lines ts e body =
        let front = front_is lines e in
        let s : RunTurns = record { head = lines; workers = c.workers; nets = c.nets; trials = ts } in
        record {
          found = (record { head = front.0; trials = body.found.0 }, front.1 ∙ ap (λ (t : List ℕ). lines ++ t) body.found.1 ∙ sym (run_split s));
          only = λ u valid is.
              let (counts, rest) = run_is u valid is in
              let trials-are : ts ≡ u.trials = body.only u.trials (subst (λ (d : Counts). AreTrials d.nets d.workers u.trials) (sym counts) valid.trials) rest in
              let heads : lines ≡ u.head = append_cancel_right lines u.head mid (sym front.1 ∙ (is ∙ run_split u) ∙ ap (λ (t : List ℕ). u.head ++ t) (sym rest)) in
              λ i. record { head = heads i; workers = (counts i).workers; nets = (counts i).nets; trials = trials-are i };
        }
