-- The result of writing a routing (this project's profile).
use Rattle.std.specs.Prelude.{◌≡◌, ℕ, Bool, true, false, List, ◌++◌, Option, Result, Ok, Err}
use Rattle.std.specs.Io.KnownBytes.{Appends}
use Rattle.route_file.specs.declared.writing.WriteFault.{WriteFault}
use Rattle.route_file.specs.declared.writing.WriteFault.TheVariants.{Failed}

-- the sink took a front of the text
abbrev pub TakesFront : (taken taken' : Option (List ℕ)) → List ℕ → Type 0
TakesFront taken taken' text = (front : List ℕ) × (rest : List ℕ) × (text ≡ front ++ rest) × Appends taken taken' front

-- Failed exactly if the sink failed, which then took a front of the text; else it took all of it
abbrev pub Writes : (sink_failed : Bool) → (taken taken' : Option (List ℕ)) → List ℕ → Result (Unit {0}) WriteFault → Type 0
Writes true taken taken' text result = (result ≡ Err Failed) × TakesFront taken taken' text
Writes false taken taken' text result = (result ≡ Ok tt) × Appends taken taken' text
