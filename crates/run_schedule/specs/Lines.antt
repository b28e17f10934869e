-- The lines of a head (ours).
use Rattle.std.specs.Prelude.{◌≡◌, ℕ, Bool, false, ◌==◌, List, [], ◌∷◌, ◌++◌, length, codes}
use Rattle.std.specs.List.{All, flat_map, list_any}

abbrev pub is_line_feed : ℕ → Bool
is_line_feed b = b == 10

-- the bytes of a line without its end
abbrev pub IsInLine : List ℕ → Type 0
IsInLine value = list_any is_line_feed value ≡ false

-- a line that begins with this front
abbrev pub line_text : (front : List ℕ) → (value : List ℕ) → List ℕ
line_text front value = front ++ (value ++ 10 ∷ [])

-- lines that begin with `# `
abbrev pub notes_text : List (List ℕ) → List ℕ
notes_text values = flat_map (line_text (codes "# ")) values

-- this many of them
pub record AreNotes (count : ℕ) (values : List (List ℕ)) : Type 0 where
  pub many : length values ≡ count
  pub each : All IsInLine values
