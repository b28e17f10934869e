-- Texts whose lines are known.
use Rattle.std.proofs.Common.{◌≡◌, ℕ, List, [], ◌∷◌, Ok, Err, refl}
use Rattle.vpr_text.specs.declared.fault.TextFault.TheVariants.{BadByte}
use Rattle.vpr_text.specs.Words.{words_of}
use Rattle.vpr_text.specs.Text.{lines_of}

-- 'a b \', ' c # x', '', 'd \'
abbrev continued_text : List ℕ
continued_text = 97 ∷ 32 ∷ 98 ∷ 32 ∷ 92 ∷ 10 ∷ 32 ∷ 99 ∷ 32 ∷ 35 ∷ 32 ∷ 120 ∷ 10 ∷ 10 ∷ 100 ∷ 32 ∷ 92 ∷ []

continued_lines : lines_of continued_text
    ≡ Ok (record { number = 1; words = (97 ∷ []) ∷ (98 ∷ []) ∷ (99 ∷ []) ∷ [] } ∷ record { number = 4; words = (100 ∷ []) ∷ [] } ∷ [])
unfolding lines_of
continued_lines = refl

-- 'a\b\', '\', '#\', 'c': a line gives up one backslash at most, and none in a comment
backslashes : words_of (97 ∷ 92 ∷ 98 ∷ 92 ∷ 10 ∷ 92 ∷ 10 ∷ 35 ∷ 92 ∷ 10 ∷ 99 ∷ [])
    ≡ record { number = 1; words = (97 ∷ 92 ∷ 98 ∷ []) ∷ [] } ∷ record { number = 4; words = (99 ∷ []) ∷ [] } ∷ []
backslashes = refl

-- 'a', and a byte 0 in a comment
bad_byte : lines_of (97 ∷ 10 ∷ 98 ∷ 35 ∷ 0 ∷ 10 ∷ []) ≡ Err (BadByte 2)
unfolding lines_of
bad_byte = refl
