-- What is left of a list from a place on.
use Rattle.std.proofs.Common.{◌≡◌, ℕ, zero, suc, ◌+◌, ◌<◌, List, [], ◌∷◌, length, get_or, drop, Some, None, refl, sym, ◌∙◌, add-one, arith}
use Rattle.std.specs.Prelude.{slice_get}
use Rattle.std.proofs.Math.Seq.{drop-cons}
use Rattle.std.proofs.lemmas.Option.{slice_get_within, get_or_from_slice_get}

pub slice_get-drop : {X : Type 0} (n : ℕ) (xs : List X) (i : ℕ) → slice_get (drop n xs) i ≡ slice_get xs (n + i)
slice_get-drop zero xs i = let e : 0 + i ≡ i = omega arith in rw e refl
slice_get-drop (suc n) [] i = refl
slice_get-drop (suc n) (x ∷ xs) i = let e : suc n + i ≡ suc (n + i) = omega arith in rw e (slice_get-drop n xs i)

-- the word at a place, and those after it
pub drop_next : {X : Type 0} (n : ℕ) (xs : List X) (x : X) → slice_get (drop n xs) 0 ≡ Some x → (n < length xs) × (drop n xs ≡ x ∷ drop (n + 1) xs)
drop_next n xs x e =
    let plus : n + 0 ≡ n = omega arith in
    let here : slice_get xs n ≡ Some x = rw plus at (sym (slice_get-drop n xs 0) ∙ e) in
    let within = slice_get_within xs n x here in
    let is : get_or xs n x ≡ x = get_or_from_slice_get xs n x x here in
    (within, rw (add-one, drop-cons xs n x, is) refl)

-- nothing is left where there is no next word
pub drop_end : {X : Type 0} (xs : List X) → slice_get xs 0 ≡ None → xs ≡ []
drop_end [] e = refl
drop_end (x ∷ xs) e = absurd cc
