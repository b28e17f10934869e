-- How the places at which sections begin are found.
use Rattle.std.specs.Prelude.{ℕ, List, Option, None, Some, slice_set}

-- the section of a net, if there is one, begins at a place
abbrev pub noted : (starts : List ℕ) → (net : Option ℕ) → (place : ℕ) → List ℕ
noted starts None place = starts
noted starts (Some n) place = slice_set starts n place
