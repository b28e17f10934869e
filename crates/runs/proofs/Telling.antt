-- Texts that are printed one after another, and what the sink took in the end.
use Rattle.std.proofs.Common.{◌≡◌, ℕ, Bool, true, false, List, [], ◌++◌, Option, Result, Ok, Err, MatchBool, ◌⊎◌, inl, inr, refl, sym, ap, subst, ◌∙◌, append_assoc}
use Rattle.std.specs.Prelude.{IsTrue, OnErr, OnOk, is_err}
use Rattle.std.specs.Borrow.{MutBor}
use Rattle.std.specs.Io.KnownBytes.{Appends}
use Rattle.std.proofs.KnownBytes.{Appends-nil, Appends-trans}
use Rattle.std.proofs.lemmas.List.{append-nil}
use Rattle.std.proofs.lemmas.Bool.{false≢true}
use Rattle.vpr_text.specs.declared.sink.ByteSink.{Ghosts}
use Rattle.text_output.specs.declared.printer.Printer.{Printer}
use Rattle.text_output.specs.Printing.{IsPrinterTo, PrintsTo}
use Rattle.run_inputs.specs.Runs.{TakesAll, TakesFront, Writing, writing}
use Rattle.run_inputs.proofs.Ending.{broke_off, broken_front, handed_out}
use Rattle.runs.specs.WidthRun.{TakesText}
use Rattle.runs.specs.kept.Told.{Tells, Told, told}

broken_or_not : (b : Bool) → (b ≡ false) ⊎ (b ≡ true)
broken_or_not true = inr refl
broken_or_not false = inl refl

-- ---- fronts

front_more : (w : Writing) (x y : List ℕ) → TakesFront w x → TakesFront w (x ++ y)
front_more w x y p = (p.0, p.1 ++ y, ap (λ (t : List ℕ). t ++ y) p.2 ∙ append_assoc p.0 p.1 y, p.3)

front_after : (a b c : Option (List ℕ)) (failed : Bool) (x y : List ℕ) → Appends a b x → TakesFront (writing b c failed) y → TakesFront (writing a c failed) (x ++ y)
front_after a b c failed x y p q =
    (x ++ q.0, q.1, ap (λ (t : List ℕ). x ++ t) q.2 ∙ sym (append_assoc x q.0 q.1), Appends-trans a b c x q.0 p q.3)

-- ---- one text after another

-- nothing is printed by nothing
pub tells_none : (s : Told) → Tells s s []
tells_none s = record { whole = λ _. Appends-nil s.taken; breaks = λ e f. absurd (false≢true (sym e ∙ f)); stays = λ _. refl }

-- nor to a sink that broke
pub tells_broken : (s : Told) (text : List ℕ) → s.broken ≡ true → Tells s s text
tells_broken s text broken = record {
  whole = λ e. absurd (false≢true (sym e ∙ broken));
  breaks = λ e _. absurd (false≢true (sym e ∙ broken));
  stays = λ _. refl;
}

was_not_broken : (s t : Told) (y : List ℕ) → Tells s t y → t.broken ≡ false → s.broken ≡ false
was_not_broken s t y q e =
    elim (broken_or_not s.broken) [ inl sound ↦ sound | inr broken ↦ sym (ap (λ (u : Told). u.broken) (q.stays broken)) ∙ e ]

pub tells_then : {r s t : Told} {x y : List ℕ} → Tells r s x → Tells s t y → Tells r t (x ++ y)
tells_then {r} {s} {t} {x} {y} p q = record {
  whole = λ e. Appends-trans r.taken s.taken t.taken x y (p.whole (was_not_broken s t y q e)) (q.whole e);
  breaks = λ e f. elim (broken_or_not s.broken) [
    | inl sound ↦
        let b = q.breaks sound f in
        (b.0, front_after r.taken s.taken t.taken t.failed x y (p.whole sound) b.1)
    | inr broken ↦
        let b = p.breaks e broken in
        subst (λ (u : Told). (u.failed ≡ true) × TakesFront (writing r.taken u.taken u.failed) (x ++ y)) (sym (q.stays broken))
        (b.0, front_more (writing r.taken s.taken s.failed) x y b.1)
  ];
  stays = λ e. let same = p.stays e in q.stays (ap (λ (u : Told). u.broken) same ∙ e) ∙ same;
}

-- ---- a text that was handed out at once

held_none : {E : Type 0} (r : Result (Unit {0}) E) (held : List ℕ) → OnOk r (held ≡ []) → is_err r ≡ false → held ≡ []
held_none (Ok x) held p e = p
held_none (Err x) held p e = absurd (false≢true (sym e))

-- through a new printer to a sink, which is `end` then
module _ {E W : Type 0} {sink : Ghosts W} {s : MutBor W} {end : W} {p q r : Printer W} {text : List ℕ} (answer : Result (Unit {0}) E) (new : IsPrinterTo s p) (sent : PrintsTo sink p q text) (rest : PrintsTo sink q r []) (last : end ≡ r.sink.now) (empty : OnOk answer (r.buffer.held ≡ [])) (ends : is_err answer ≡ r.buffer.broken) where
  sent_so : Tells (told (sink.taken s.now) (sink.failed s.now) false) (told (sink.taken end) (sink.failed end) (is_err answer)) text
  sent_so = record {
    whole = λ e. handed_out (tt {0}) new sent rest last (sym ends ∙ e) (held_none answer r.buffer.held empty e);
    breaks = λ _ f. (broke_off (tt {0}) new sent rest last (sym ends ∙ f), broken_front (tt {0}) new sent rest last (sym ends ∙ f));
    stays = λ e. absurd (false≢true e);
  }

  pub tells_sent : {was broken : Bool} → was ≡ false → broken ≡ is_err answer → Tells (told (sink.taken s.now) (sink.failed s.now) was) (told (sink.taken end) (sink.failed end) broken) text
  tells_sent {was} {broken} sound is = rw (sound, is) sent_so

-- by one call
printed_so : {E : Type 0} (r : Result (Unit {0}) E) (taken taken' : Option (List ℕ)) (failed failed' : Bool) (text : List ℕ)
    → OnOk r (Appends taken taken' text) → OnErr r (IsTrue failed') → OnErr r (TakesFront (writing taken taken' failed') text)
    → Tells (told taken failed false) (told taken' failed' (is_err r)) text
printed_so (Ok x) taken taken' failed failed' text p f q = record {
  whole = λ _. p;
  breaks = λ _ e. absurd (false≢true e);
  stays = λ e. absurd (false≢true e);
}
printed_so (Err x) taken taken' failed failed' text p f q = record {
  whole = λ e. absurd (false≢true (sym e));
  breaks = λ _ _. (f, q);
  stays = λ e. absurd (false≢true e);
}

pub tells_printed : {E : Type 0} {taken taken' : Option (List ℕ)} {failed failed' : Bool} {text : List ℕ} (r : Result (Unit {0}) E)
    → OnOk r (Appends taken taken' text) → OnErr r (IsTrue failed') → OnErr r (TakesFront (writing taken taken' failed') text)
    → {was broken : Bool} → was ≡ false → broken ≡ is_err r → Tells (told taken failed was) (told taken' failed' broken) text
tells_printed {taken = taken} {taken' = taken'} {failed = failed} {failed' = failed'} {text = text} r p f q {was} {broken} sound is =
    rw (sound, is) (printed_so r taken taken' failed failed' text p f q)

-- ---- in the end

takes_all : (w : Writing) (text : List ℕ) (failed : Bool) → TakesAll w text → MatchBool failed (TakesFront w text) (TakesAll w text)
takes_all w text true all = (text, [], sym (append-nil text), all)
takes_all w text false all = all

pub takes_text : (taken taken' : Option (List ℕ)) (failed failed' broken : Bool) (text : List ℕ) → Tells (told taken failed false) (told taken' failed' broken) text → TakesText (writing taken taken' failed') text
takes_text taken taken' failed failed' true text p =
    let w = writing taken taken' failed' in
    let b = p.breaks refl refl in
    subst (λ (x : Bool). MatchBool x (TakesFront w text) (TakesAll w text)) (sym b.0) b.1
takes_text taken taken' failed failed' false text p = takes_all (writing taken taken' failed') text failed' (p.whole refl)
