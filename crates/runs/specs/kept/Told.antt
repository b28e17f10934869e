-- Texts that are printed one after another, each handed out at once.
use Rattle.std.specs.Prelude.{◌≡◌, ℕ, Bool, true, false, List, Option}
use Rattle.std.specs.Io.KnownBytes.{Appends}
use Rattle.run_inputs.specs.Runs.{TakesFront, writing}

-- what a sink took, if that is known, whether it has failed, and whether it broke under these texts
pub record Told : Type 0 where
  pub taken : Option (List ℕ)
  pub failed : Bool
  pub broken : Bool

abbrev pub told : Option (List ℕ) → (failed broken : Bool) → Told
told taken failed broken = record { taken = taken; failed = failed; broken = broken }

-- The text was printed; or the sink failed, and took a front of it. Nothing is printed to a sink
-- that broke before.
pub record Tells (old new : Told) (text : List ℕ) : Type 0 where
  pub whole : new.broken ≡ false → Appends old.taken new.taken text
  pub breaks : old.broken ≡ false → new.broken ≡ true → (new.failed ≡ true) × TakesFront (writing old.taken new.taken new.failed) text
  pub stays : old.broken ≡ true → new ≡ old

-- the same for a sink; these functions give what it took and whether it has failed
abbrev pub TellsTo : {S : Type 0} → (taken : S → Option (List ℕ)) → (failed : S → Bool) → (sink new_sink : S) → (broken new_broken : Bool) → (text : List ℕ) → Type 0
TellsTo taken failed sink new_sink broken new_broken text = Tells (told (taken sink) (failed sink) broken) (told (taken new_sink) (failed new_sink) new_broken) text
