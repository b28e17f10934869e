-- Texts that are sent piece by piece.
use Rattle.std.proofs.Common.{◌≡◌, ℕ, ◌+◌, ◌<◌, Bool, true, false, List, [], ◌∷◌, ◌++◌, length, get_or, drop, Ok, Err, inl, inr, refl, sym, ap, subst, ◌∙◌, drop-cons, add-one, arith}
use Rattle.std.specs.Borrow.{MutBor}
use Rattle.std.specs.Io.KnownBytes.{Appends}
use Rattle.std.proofs.lemmas.List.{append-nil}
use Rattle.vpr_text.specs.Output.{Sends, holding, stream}
use Rattle.vpr_text.specs.declared.sink.ByteSink.{Ghosts}
use Rattle.text_output.specs.declared.printer.Printer.{Printer}
use Rattle.text_output.specs.Printing.{IsPrinterTo, PrintsTo}
use Rattle.text_output.proofs.Printing.{prints_none, prints_nothing, prints_then, sends_all}
use Rattle.route_file.specs.declared.writing.WriteFault.TheVariants.{Failed}
use Rattle.route_file.specs.Writes.{Writes}

-- of a whole text the rest is still to be printed
pub record Lacks {W : Type 0} (sink : Ghosts W) (old now : Printer W) (rest whole : List ℕ) : Type 0 where
  pub then : (new : Printer W) → PrintsTo sink now new rest → PrintsTo sink old new whole

module _ {W : Type 0} {sink : Ghosts W} where
  pub lacks_all : (s : Printer W) (whole : List ℕ) → Lacks sink s s whole whole
  lacks_all s whole = record { then = λ new printed. printed }

  -- a piece was printed
  pub lacks_less : {old now new : Printer W} {piece rest whole : List ℕ} → Lacks sink old now (piece ++ rest) whole → PrintsTo sink now new piece → Lacks sink old new rest whole
  lacks_less h printed = record { then = λ last later. h.then last (prints_then printed later) }

  pub lacks_next : {old now new : Printer W} {rest piece later whole : List ℕ} → Lacks sink old now rest whole → rest ≡ piece ++ later → PrintsTo sink now new piece → Lacks sink old new later whole
  lacks_next {old} {now} {new} {rest} {piece} {later} {whole} h e printed = lacks_less (subst (λ (r : List ℕ). Lacks sink old now r whole) e h) printed

  -- nothing is lacking
  pub lacks_nothing : {old now : Printer W} {whole : List ℕ} → Lacks sink old now [] whole → PrintsTo sink old now whole
  lacks_nothing {old} {now} {whole} h = h.then now (prints_none now)

  pub lacks_end : {old now : Printer W} {rest whole : List ℕ} → Lacks sink old now rest whole → rest ≡ [] → PrintsTo sink old now whole
  lacks_end {old} {now} {rest} {whole} h e = lacks_nothing (subst (λ (r : List ℕ). Lacks sink old now r whole) e h)

  -- nothing is printed any more once the sink broke
  pub lacks_for_good : {old now : Printer W} {rest whole : List ℕ} → Lacks sink old now rest whole → now.buffer.broken ≡ true → PrintsTo sink old now whole
  lacks_for_good {old} {now} {rest} {whole} h broken = h.then now (prints_nothing now rest broken)

-- what stands from place i on is its element and what stands after it
pub drop_next : {X : Type 0} (xs : List X) (i : ℕ) (d : X) → i < length xs → drop i xs ≡ get_or xs i d ∷ drop (i + 1) xs
drop_next xs i d within = drop-cons xs i d within ∙ ap (λ (n : ℕ). get_or xs i d ∷ drop n xs) (sym (add-one i))

-- a text that went through a new printer to its sink, which is `end` then
module _ {W : Type 0} {sink : Ghosts W} {s : MutBor W} {end : W} {p q r : Printer W} {text : List ℕ} (new : IsPrinterTo s p) (sent : PrintsTo sink p q text) (rest : PrintsTo sink q r []) (last : end ≡ r.sink.now) where
  all : Sends (stream (sink.taken s.now) (sink.failed s.now) (holding [])) (stream (sink.taken end) (sink.failed end) r.buffer) text
  all = sends_all new sent rest last

  pub writes_all : r.buffer.broken ≡ false → r.buffer.held ≡ [] → 0 < length text → Writes (sink.failed end) (sink.taken s.now) (sink.taken end) text (Ok tt)
  writes_all sound empty some =
      let h = all.prints sound in
      let whole : text ≡ h.front = h.whole ∙ (ap (λ (b : List ℕ). h.front ++ b) empty ∙ append-nil h.front) in
      let healthy : sink.failed end ≡ false = elim h.sound [ inl f ↦ f | inr none ↦ absurd (omega (arith, ap length (whole ∙ none.0), some)) ] in
      subst (λ (b : Bool). Writes b (sink.taken s.now) (sink.taken end) text (Ok tt)) (sym healthy) (refl, subst (Appends (sink.taken s.now) (sink.taken end)) (sym whole) h.taken)

  pub writes_front : r.buffer.broken ≡ true → Writes (sink.failed end) (sink.taken s.now) (sink.taken end) text (Err Failed)
  writes_front broken =
      let b = all.breaks refl broken in
      subst (λ (f : Bool). Writes f (sink.taken s.now) (sink.taken end) text (Err Failed)) (sym b.failed) (refl, (b.front, b.rest, b.whole, b.taken))
