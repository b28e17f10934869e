-- Keys and their values: the words of a line taken two at a time (this project's profile).
use Rattle.std.specs.Prelude.{ℕ, Bool, false, List, [], ◌∷◌, Option, option_and_then, unwrap_or, is_some, find}
use Rattle.std.specs.Option.{option_map, option_map_or}
use Rattle.vpr_text.specs.Word.{is_text}
use Rattle.vpr_text.specs.Numbers.{number_of, fixed_of}

-- each key with the word after it; a last key without a value gives no pair
abbrev pub pairs_of : List (List ℕ) → List (List ℕ × List ℕ)
pairs_of [] = []
pairs_of (key ∷ []) = []
pairs_of (key ∷ value ∷ words) = (key, value) ∷ pairs_of words

-- the first pair with this key
unfoldable pub pair_with : List (List ℕ) → List ℕ → Option (List ℕ × List ℕ)
pair_with words key = find (λ pair. is_text pair.0 key) (pairs_of words)

-- the value of a key: that of the first pair with this key
unfoldable pub value_of : List (List ℕ) → List ℕ → Option (List ℕ)
value_of words key = option_map (λ pair. pair.1) (pair_with words key)

abbrev pub has_key : List (List ℕ) → List ℕ → Bool
has_key words key = is_some (value_of words key)

-- the value of a key is this text
abbrev pub is_value : List (List ℕ) → List ℕ → List ℕ → Bool
is_value words key text = option_map_or (λ word. is_text word text) (value_of words key) false

-- the number that is the value of a key, or 0 where there is none
abbrev pub number_for : List (List ℕ) → List ℕ → ℕ
number_for words key = unwrap_or (option_and_then number_of (value_of words key)) 0

-- the same for a number with decimals, in units of 10^-9
abbrev pub fixed_for : List (List ℕ) → List ℕ → ℕ
fixed_for words key = unwrap_or (option_and_then fixed_of (value_of words key)) 0
