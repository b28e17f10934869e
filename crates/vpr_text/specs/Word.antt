-- A word of a line by its place, counted from 0, and what it is read as.
use Rattle.std.specs.Prelude.{ℕ, Bool, false, nat_lt, List, [], length, Option, option_and_then, is_some, unwrap_or, slice_get}
use Rattle.std.specs.Option.{option_map_or}
use Rattle.std.specs.Str.{bytes_eq}
use Rattle.vpr_text.specs.Numbers.{number_of, fixed_of}

-- a word is this text
unfoldable pub is_text : List ℕ → List ℕ → Bool
is_text word text = bytes_eq word text

-- there is a word at this place
abbrev pub has : List (List ℕ) → ℕ → Bool
has words j = nat_lt j (length words)

-- the word at this place; past the last one a word without bytes
abbrev pub word_at : List (List ℕ) → ℕ → List ℕ
word_at words j = unwrap_or (slice_get words j) []

-- the word at this place is this text
abbrev pub is_at : List (List ℕ) → ℕ → List ℕ → Bool
is_at words j text = option_map_or (λ word. is_text word text) (slice_get words j) false

-- the number that the word at this place is, if it is one
abbrev pub number_in : List (List ℕ) → ℕ → Option ℕ
number_in words j = option_and_then number_of (slice_get words j)

-- the same for a number with decimals, in units of 10^-9
abbrev pub fixed_in : List (List ℕ) → ℕ → Option ℕ
fixed_in words j = option_and_then fixed_of (slice_get words j)

abbrev pub is_number : List (List ℕ) → ℕ → Bool
is_number words j = is_some (number_in words j)

-- the number that the word at this place is, or 0 where it is none
abbrev pub number_or_0 : List (List ℕ) → ℕ → ℕ
number_or_0 words j = unwrap_or (number_in words j) 0
