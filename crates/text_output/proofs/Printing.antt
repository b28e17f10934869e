-- How a printer goes on from what was printed, and how it ends.
use Rattle.std.proofs.Common.{◌≡◌, ℕ, true, List, [], ◌++◌, refl, sym, subst, ◌∙◌}
use Rattle.std.specs.Borrow.{MutBor}
use Rattle.std.proofs.lemmas.Bool.{false≢true}
use Rattle.std.proofs.lemmas.List.{append-nil}
use Rattle.vpr_text.specs.Output.{Buffer, Sends, holding, stream}
use Rattle.vpr_text.proofs.Printing.{sends_none, sends_then}
use Rattle.vpr_text.specs.declared.sink.ByteSink.{Ghosts}
use Rattle.text_output.specs.declared.printer.Printer.{Printer}
use Rattle.text_output.specs.Printing.{IsPrinterTo, PrintsTo, stream_of}

module _ {W : Type 0} {sink : Ghosts W} where
  -- nothing is printed by nothing
  pub prints_none : (s : Printer W) → PrintsTo sink s s []
  prints_none s = record { same_sink = refl; sends = sends_none (stream_of sink s) }

  -- one text is printed after another
  pub prints_then : {r s t : Printer W} {x y : List ℕ} → PrintsTo sink r s x → PrintsTo sink s t y → PrintsTo sink r t (x ++ y)
  prints_then p q = record { same_sink = q.same_sink ∙ p.same_sink; sends = sends_then p.sends q.sends }

  -- nor anything once the sink broke
  pub prints_nothing : (s : Printer W) (text : List ℕ) → s.buffer.broken ≡ true → PrintsTo sink s s text
  prints_nothing s text broken = record {
    same_sink = refl;
    sends = record {
      prints = λ sound. absurd (false≢true (sym sound ∙ broken));
      breaks = λ sound _. absurd (false≢true (sym sound ∙ broken));
      stays = λ _. refl;
    };
  }

  -- what a new printer sent, from the sink as it was
  pub sent_from : {s : MutBor W} {p q : Printer W} {text : List ℕ} → IsPrinterTo s p → PrintsTo sink p q text
      → Sends (stream (sink.taken s.now) (sink.failed s.now) (holding [])) (stream_of sink q) text
  sent_from {s} {p} {q} {text} new sent =
      subst (λ (b : Buffer). Sends (stream (sink.taken s.now) (sink.failed s.now) b) (stream_of sink q) text) new.holds_nothing
      (subst (λ (w : W). Sends (stream (sink.taken w) (sink.failed w) p.buffer) (stream_of sink q) text) new.unchanged sent.sends)

  -- what was sent from a new printer to its end, and what its sink is then
  pub sends_all : {s : MutBor W} {end : W} {p q r : Printer W} {text : List ℕ} → IsPrinterTo s p → PrintsTo sink p q text → PrintsTo sink q r [] → end ≡ r.sink.now
      → Sends (stream (sink.taken s.now) (sink.failed s.now) (holding [])) (stream (sink.taken end) (sink.failed end) r.buffer) text
  sends_all {s} {end} {p} {q} {r} {text} new sent rest last =
      let start = stream (sink.taken s.now) (sink.failed s.now) (holding []) in
      subst (λ (w : W). Sends start (stream (sink.taken w) (sink.failed w) r.buffer) text) (sym last)
      (subst (Sends start (stream_of sink r)) (append-nil text) (sends_then (sent_from new sent) rest.sends))
