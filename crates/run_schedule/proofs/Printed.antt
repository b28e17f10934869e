-- What was printed of a list, with an element more; and how a text ends.
use Rattle.std.proofs.Common.{◌≡◌, ℕ, ◌+◌, ◌<◌, suc, Bool, true, false, List, [], ◌∷◌, ◌++◌, length, take, get_or, Option, Result, Ok, Err, inl, inr, refl, sym, ap, subst, ◌∙◌, append_assoc, add-zero, arith, length-append}
use Rattle.std.specs.Prelude.{OnOk, is_err}
use Rattle.std.specs.Borrow.{MutBor}
use Rattle.std.specs.List.{flat_map}
use Rattle.std.specs.Io.KnownBytes.{Appends}
use Rattle.std.proofs.lemmas.List.{append-nil, length-take, take_more}
use Rattle.std.proofs.lemmas.Grind.{flat_map-append}
use Rattle.vpr_text.specs.declared.source.Broken.{Broken}
use Rattle.vpr_text.specs.Output.{Prints, Sends, holding, stream}
use Rattle.vpr_text.specs.declared.sink.ByteSink.{Ghosts}
use Rattle.text_output.specs.declared.printer.Printer.{Printer}
use Rattle.text_output.specs.Printing.{IsPrinterTo, PrintsTo}
use Rattle.text_output.proofs.Printing.{sends_all}
use Rattle.gates.specs.declared.schedule.ScheduledTurn.{ScheduledTurn}
use Rattle.run_schedule.specs.Schedules.{TrialTurns}
use Rattle.run_schedule.specs.Writes.{WritesText}
use Rattle.run_schedule.specs.ScheduleTexts.{iteration_text, iterations_text, schedule_text}

-- the texts of the elements below an index, and that of the element there
pub texts_more : {X : Type 0} (text : X → List ℕ) (xs : List X) (i : ℕ) (d : X) → i < length xs
    → flat_map text (take i xs) ++ text (get_or xs i d) ≡ flat_map text (take (i + 1) xs)
texts_more text xs i d within =
    let x = get_or xs i d in
    sym (ap (flat_map text) (take_more xs i d within) ∙ flat_map-append text (take i xs) (x ∷ []) ∙ ap (λ t. flat_map text (take i xs) ++ t) (append-nil (text x)))

-- the texts of numbered items, of which the first has a number, and that of one more
pub numbered_push : {X : Type 0} (text : ℕ → X → List ℕ) (texts : ℕ → List X → List ℕ) → ((n : ℕ) → texts n [] ≡ []) → ((n : ℕ) (x : X) (xs : List X) → texts n (x ∷ xs) ≡ text n x ++ texts (n + 1) xs)
    → (n : ℕ) (xs : List X) (x : X) → texts n (xs ++ x ∷ []) ≡ texts n xs ++ text (n + length xs) x
numbered_push text texts none some n [] x =
    some n x [] ∙ ap (λ (t : List ℕ). text n x ++ t) (none (n + 1)) ∙ append-nil (text n x)
    ∙ ap (λ k. text k x) (sym (add-zero n)) ∙ ap (λ (t : List ℕ). t ++ text (n + 0) x) (sym (none n))
numbered_push text texts none some n (y ∷ xs) x =
    let later : n + 1 + length xs ≡ n + suc (length xs) = omega arith in
    some n y (xs ++ x ∷ []) ∙ ap (λ (t : List ℕ). text n y ++ t) (numbered_push text texts none some (n + 1) xs x)
    ∙ sym (append_assoc (text n y) (texts (n + 1) xs) (text (n + 1 + length xs) x))
    ∙ ap (λ (t : List ℕ). t ++ text (n + 1 + length xs) x) (sym (some n y xs))
    ∙ ap (λ k. texts n (y ∷ xs) ++ text k x) later

pub iterations_push : (n : ℕ) (its : List (List ScheduledTurn)) (turns : List ScheduledTurn)
    → iterations_text n (its ++ turns ∷ []) ≡ iterations_text n its ++ iteration_text (n + length its) turns
iterations_push n its turns = numbered_push iteration_text iterations_text (λ k. refl) (λ k x xs. refl) n its turns

-- the same of iterations, which are numbered
pub iterations_more : (its : List (List ScheduledTurn)) (i : ℕ) (d : List ScheduledTurn) → i < length its
    → iterations_text 1 (take i its) ++ iteration_text (i + 1) (get_or its i d) ≡ iterations_text 1 (take (i + 1) its)
iterations_more its i d within =
    let turns = get_or its i d in
    let number : 1 + length (take i its) ≡ i + 1 = omega (arith, length-take i its) in
    sym (ap (iterations_text 1) (take_more its i d within) ∙ iterations_push 1 (take i its) turns ∙ ap (λ k. iterations_text 1 (take i its) ++ iteration_text k turns) number)

-- a text that went through a new printer to its sink, which is `end` then
module _ {W : Type 0} {sink : Ghosts W} {s : MutBor W} {end : W} {p q r : Printer W} {text : List ℕ} (new : IsPrinterTo s p) (sent : PrintsTo sink p q text) (rest : PrintsTo sink q r []) (last : end ≡ r.sink.now) where
  all : Sends (stream (sink.taken s.now) (sink.failed s.now) (holding [])) (stream (sink.taken end) (sink.failed end) r.buffer) text
  all = sends_all new sent rest last

  whole_front : (h : Prints (stream (sink.taken s.now) (sink.failed s.now) (holding [])) (stream (sink.taken end) (sink.failed end) r.buffer) text) → r.buffer.held ≡ [] → text ≡ h.front
  whole_front h empty = h.whole ∙ (ap (λ (b : List ℕ). h.front ++ b) empty ∙ append-nil h.front)

  -- all of the text was taken
  pub handed_out : r.buffer.broken ≡ false → r.buffer.held ≡ [] → Appends (sink.taken s.now) (sink.taken end) text
  handed_out sound empty = let h = all.prints sound in subst (Appends (sink.taken s.now) (sink.taken end)) (sym (whole_front h empty)) h.taken

  taken_whole : r.buffer.broken ≡ false → r.buffer.held ≡ [] → 0 < length text → WritesText (sink.taken s.now) (sink.taken end) (sink.failed end) text (Ok tt)
  taken_whole sound empty some =
      let h = all.prints sound in
      let healthy : sink.failed end ≡ false = elim h.sound [ inl f ↦ f | inr none ↦ absurd (omega (arith, ap length (whole_front h empty ∙ none.0), some)) ] in
      subst (λ (b : Bool). WritesText (sink.taken s.now) (sink.taken end) b text (Ok tt)) (sym healthy) (refl, handed_out sound empty)

  taken_front : (e : Broken) → r.buffer.broken ≡ true → WritesText (sink.taken s.now) (sink.taken end) (sink.failed end) text (Err e)
  taken_front e broken =
      let b = all.breaks refl broken in
      subst (λ (f : Bool). WritesText (sink.taken s.now) (sink.taken end) f text (Err e)) (sym b.failed) (refl, (b.front, b.rest, b.whole, b.taken))

  pub written : (result : Result (Unit {0}) Broken) → OnOk result (r.buffer.held ≡ []) → is_err result ≡ r.buffer.broken → 0 < length text → WritesText (sink.taken s.now) (sink.taken end) (sink.failed end) text result
  written (Ok x) empty broken some = taken_whole (sym broken) empty some
  written (Err e) empty broken some = taken_front e (sym broken)

-- no schedule has an empty text
pub schedule_filled : (head : List ℕ) (trials : List TrialTurns) → 0 < length (schedule_text head trials)
unfolding schedule_text
schedule_filled head trials = simp length-append (omega arith)
