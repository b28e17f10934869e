-- How text goes through a printer (this project's profile).
use Rattle.std.specs.Prelude.{◌≡◌, ℕ, List, []}
use Rattle.std.specs.Borrow.{MutBor}
use Rattle.vpr_text.specs.Output.{Sends, Stream, holding, stream}
use Rattle.vpr_text.specs.declared.sink.ByteSink.{Ghosts}
use Rattle.text_output.specs.declared.printer.Printer.{Printer}

-- a printer to this sink that holds nothing
pub record IsPrinterTo {W : Type 0} (sink : MutBor W) (p : Printer W) : Type 0 where
  pub same_sink : p.sink.ghost_name ≡ sink.ghost_name
  pub unchanged : p.sink.now ≡ sink.now
  pub holds_nothing : p.buffer ≡ holding []

-- what a printer's sink took, where that is known, whether it has failed, and the buffer before it;
-- the first argument has what a type of sinks gives
abbrev pub stream_of : {W : Type 0} → Ghosts W → Printer W → Stream
stream_of sink p = stream (sink.taken p.sink.now) (sink.failed p.sink.now) p.buffer

-- the text was sent through the buffer of a printer to its sink, which is the same as before
pub record PrintsTo {W : Type 0} (sink : Ghosts W) (old new : Printer W) (text : List ℕ) : Type 0 where
  pub same_sink : new.sink.ghost_name ≡ old.sink.ghost_name
  pub sends : Sends (stream_of sink old) (stream_of sink new) text
