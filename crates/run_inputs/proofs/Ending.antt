-- How printing ends.
use Rattle.std.proofs.Common.{◌≡◌, ℕ, ◌<◌, Bool, true, false, List, [], ◌++◌, length, Option, Some, None, Ok, Err, inl, inr, refl, sym, ap, subst, ◌∙◌, arith}
use Rattle.std.specs.Borrow.{MutBor}
use Rattle.std.specs.Io.KnownBytes.{Appends, Keeps}
use Rattle.std.proofs.lemmas.List.{append-nil}
use Rattle.vpr_text.specs.Output.{Sends, holding, stream}
use Rattle.vpr_text.specs.declared.sink.ByteSink.{Ghosts}
use Rattle.text_output.specs.declared.printer.Printer.{Printer}
use Rattle.text_output.specs.Printing.{IsPrinterTo, PrintsTo}
use Rattle.text_output.proofs.Printing.{sends_all}
use Rattle.run_inputs.specs.declared.fault.AppFault.TheVariants.{Unwritten}
use Rattle.run_inputs.specs.Runs.{TakesFront, PrintsText, writing}

pub Keeps-same : (known : Option (List ℕ)) → Keeps known known
Keeps-same None = tt
Keeps-same (Some bytes) = refl

-- a text that went through a new printer to its sink, which is `end` then
module _ {R W : Type 0} (value : R) {sink : Ghosts W} {s : MutBor W} {end : W} {p q r : Printer W} {text : List ℕ} (new : IsPrinterTo s p) (sent : PrintsTo sink p q text) (rest : PrintsTo sink q r []) (last : end ≡ r.sink.now) where
  all : Sends (stream (sink.taken s.now) (sink.failed s.now) (holding [])) (stream (sink.taken end) (sink.failed end) r.buffer) text
  all = sends_all new sent rest last

  -- all of a text was handed out
  pub handed_out : r.buffer.broken ≡ false → r.buffer.held ≡ [] → Appends (sink.taken s.now) (sink.taken end) text
  handed_out sound empty =
      let h = all.prints sound in
      let whole : text ≡ h.front = h.whole ∙ (ap (λ (b : List ℕ). h.front ++ b) empty ∙ append-nil h.front) in
      subst (Appends (sink.taken s.now) (sink.taken end)) (sym whole) h.taken

  pub is_sound : r.buffer.broken ≡ false → r.buffer.held ≡ [] → 0 < length text → sink.failed end ≡ false
  is_sound sound empty some =
      let h = all.prints sound in
      let whole : text ≡ h.front = h.whole ∙ (ap (λ (b : List ℕ). h.front ++ b) empty ∙ append-nil h.front) in
      elim h.sound [ inl f ↦ f | inr none ↦ absurd (omega (arith, ap length (whole ∙ none.0), some)) ]

  pub printed : r.buffer.broken ≡ false → r.buffer.held ≡ [] → 0 < length text → PrintsText (writing (sink.taken s.now) (sink.taken end) (sink.failed end)) text value (Ok value)
  printed sound empty some =
      subst (λ (b : Bool). PrintsText (writing (sink.taken s.now) (sink.taken end) b) text value (Ok value)) (sym (is_sound sound empty some)) (refl, handed_out sound empty)

  -- a front of a text was handed out, and the sink failed
  pub broke_off : r.buffer.broken ≡ true → sink.failed end ≡ true
  broke_off broken = (all.breaks refl broken).failed

  pub broken_front : r.buffer.broken ≡ true → TakesFront (writing (sink.taken s.now) (sink.taken end) (sink.failed end)) text
  broken_front broken =
      let b = all.breaks refl broken in
      (b.front, b.rest, b.whole, b.taken)

  pub broken_text : r.buffer.broken ≡ true → PrintsText (writing (sink.taken s.now) (sink.taken end) (sink.failed end)) text value (Err Unwritten)
  broken_text broken =
      subst (λ (f : Bool). PrintsText (writing (sink.taken s.now) (sink.taken end) f) text value (Err Unwritten)) (sym (broke_off broken)) (refl, broken_front broken)
