-- How text goes through a buffer to a sink (this project's profile).
use Rattle.std.specs.Prelude.{◌≡◌, ℕ, Bool, true, false, List, [], ◌++◌, Option, ◌⊎◌}
use Rattle.std.specs.Io.KnownBytes.{Appends}

-- what a buffer holds, and whether a sink broke under it
pub record Buffer : Type 0 where
  pub held : List ℕ
  pub broken : Bool

-- what a buffer holds that isn't broken
abbrev pub holding : List ℕ → Buffer
holding held = record { held = held; broken = false }

-- what the sink took, where that is known, whether it has failed, and the buffer before it
pub record Stream : Type 0 where
  pub taken : Option (List ℕ)
  pub failed : Bool
  pub buffer : Buffer

-- the text was printed: the sink took a front of what was held and of the text, and the rest is
-- held; if the sink took anything, it hasn't failed
pub record Prints (old new : Stream) (text : List ℕ) : Type 0 where
  pub front : List ℕ
  pub whole : old.buffer.held ++ text ≡ front ++ new.buffer.held
  pub taken : Appends old.taken new.taken front
  pub sound : (new.failed ≡ false) ⊎ ((front ≡ []) × (new.failed ≡ old.failed))

-- the text broke off: the sink failed after it took a front of what was held and of the text
pub record Breaks (old new : Stream) (text : List ℕ) : Type 0 where
  pub front : List ℕ
  pub rest : List ℕ
  pub whole : old.buffer.held ++ text ≡ front ++ rest
  pub taken : Appends old.taken new.taken front
  pub failed : new.failed ≡ true

-- The text was sent: it was printed, or it broke off and the buffer is broken. Nothing is sent
-- through a broken buffer.
pub record Sends (old new : Stream) (text : List ℕ) : Type 0 where
  pub prints : new.buffer.broken ≡ false → Prints old new text
  pub breaks : old.buffer.broken ≡ false → new.buffer.broken ≡ true → Breaks old new text
  pub stays : old.buffer.broken ≡ true → new ≡ old

abbrev pub stream : Option (List ℕ) → Bool → Buffer → Stream
stream taken failed buffer = record { taken = taken; failed = failed; buffer = buffer }

-- the text was sent through a buffer to a sink; these say what the sink took and whether it has
-- failed
abbrev pub SendsTo : {S : Type 0} → (taken : S → Option (List ℕ)) → (failed : S → Bool) → (sink new_sink : S) → (buffer new_buffer : Buffer) → List ℕ → Type 0
SendsTo taken failed sink new_sink buffer new_buffer text =
    Sends (stream (taken sink) (failed sink) buffer) (stream (taken new_sink) (failed new_sink) new_buffer) text
