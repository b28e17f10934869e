-- Whether a physical line goes on, byte by byte.
use Rattle.std.proofs.Common.{◌≡◌, ℕ, Bool, true, false, cond, ◌==◌, List, [], ◌∷◌, filter, refl, ◌∙◌}
use Rattle.std.specs.List.{onto_first, slice_split}
use Rattle.vpr_text.specs.Words.{goes_on, is_filled, is_separator, words_between}

-- whether the last byte that separates no words is a backslash, where bytes follow on ones of which
-- the answer is known
abbrev pub last_after : Bool → List ℕ → Bool
last_after e [] = e
last_after e (b ∷ bs) = last_after (cond (is_separator b) e (b == 92)) bs

-- whether the words go on, or what is known where there are none
abbrev goes_on_or : Bool → List (List ℕ) → Bool
goes_on_or e [] = e
goes_on_or e (w ∷ ws) = goes_on (w ∷ ws)

-- after a first word of one byte
one_byte : (b : ℕ) (ws : List (List ℕ)) → goes_on ((b ∷ []) ∷ ws) ≡ goes_on_or (b == 92) ws
one_byte b [] = refl
one_byte b (w ∷ ws) = refl

-- a byte before a first word that has others
byte_more : (b c : ℕ) (cs : List ℕ) (ws : List (List ℕ)) → goes_on ((b ∷ c ∷ cs) ∷ ws) ≡ goes_on ((c ∷ cs) ∷ ws)
byte_more b c cs [] = refl
byte_more b c cs (w ∷ ws) = refl

-- a byte before the parts
onto_first_goes_on : (e : Bool) (b : ℕ) (parts : List (List ℕ)) → goes_on_or e (filter is_filled (onto_first b parts)) ≡ goes_on_or (b == 92) (filter is_filled parts)
onto_first_goes_on e b [] = refl
onto_first_goes_on e b ([] ∷ ps) = one_byte b (filter is_filled ps)
onto_first_goes_on e b ((c ∷ cs) ∷ ps) = byte_more b c cs (filter is_filled ps)

-- one byte more at the front
after_one : (t e : Bool) (b : ℕ) (parts : List (List ℕ)) →
    goes_on_or e (filter is_filled (cond t ([] ∷ parts) (onto_first b parts))) ≡ goes_on_or (cond t e (b == 92)) (filter is_filled parts)
after_one true e b parts = refl
after_one false e b parts = onto_first_goes_on e b parts

last_or : (e : Bool) (bs : List ℕ) → goes_on_or e (words_between bs) ≡ last_after e bs
last_or e [] = refl
last_or e (b ∷ bs) =
    after_one (is_separator b) e b (slice_split is_separator bs) ∙ last_or (cond (is_separator b) e (b == 92)) bs

from_none : (ws : List (List ℕ)) → goes_on ws ≡ goes_on_or false ws
from_none [] = refl
from_none (w ∷ ws) = refl

-- the words of a text go on where its last byte that separates no words is a backslash
pub words_go_on : (bs : List ℕ) → goes_on (words_between bs) ≡ last_after false bs
words_go_on bs = from_none (words_between bs) ∙ last_or false bs
