-- The outcome of writing a text (ours).
use Rattle.std.specs.Prelude.{◌≡◌, ℕ, Bool, true, false, List, ◌++◌, Option, Result, Ok, IsErr}
use Rattle.std.specs.Io.KnownBytes.{Appends}
use Rattle.vpr_text.specs.declared.source.Broken.{Broken}

-- the sink took a front of the text
abbrev pub TakesFront : (taken taken' : Option (List ℕ)) → List ℕ → Type 0
TakesFront taken taken' text = (front : List ℕ) × (rest : List ℕ) × (text ≡ front ++ rest) × Appends taken taken' front

-- Broken exactly if the sink failed, and then it took a front of the text; else it took all of it
abbrev pub WritesText : (taken taken' : Option (List ℕ)) → (sink_failed : Bool) → List ℕ → Result (Unit {0}) Broken → Type 0
WritesText taken taken' true text result = (IsErr result) × TakesFront taken taken' text
WritesText taken taken' false text result = (result ≡ Ok tt) × Appends taken taken' text
