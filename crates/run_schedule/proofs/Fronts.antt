-- What is behind a front, and where the first element of a kind stands.
use Rattle.std.proofs.Common.{◌≡◌, ◌≢◌, ℕ, ◌+◌, ◌<◌, Bool, true, false, nat_lt, List, [], ◌∷◌, ◌++◌, length, take, drop, get_or, Option, Some, Bor, eqb, refl, ap, subst, ◌∙◌, arith}
use Rattle.std.specs.Prelude.{MatchOption, position}
use Rattle.std.specs.List.{list_any, position_or_len}
use Rattle.std.specs.Cmp.Lexicographic.{pointwise}
use Rattle.std.proofs.lemmas.Bool.{lt-ltb, ltb-true, or_parts}
use Rattle.std.proofs.lemmas.Bool.Decides.{Decides-eqb}
use Rattle.std.proofs.lemmas.List.{get_or-take, length-append, length-take}
use Rattle.std.proofs.lemmas.List.Folds.{list_any_none}
use Rattle.std.proofs.lemmas.List.Sums.{fails_before_first, passes_at_first, split_at_first}
use Rattle.std.proofs.lemmas.Option.{cond_some}
use Rattle.std.proofs.lemmas.Slice.Eq.{strip_prefix_is}

pub behind : (text front : List ℕ) (r : Option (Bor (List ℕ)))
    → MatchOption r (pointwise eqb (take (length front) text) front ≡ false) (λ x. (pointwise eqb (take (length front) text) front ≡ true) × (x.now ≡ drop (length front) text) × (length x.now + length front ≡ length text))
    → MatchOption r ((rest : List ℕ) → text ≢ front ++ rest) (λ x. text ≡ front ++ x.now)
behind text front r h = strip_prefix_is Decides-eqb text front r h

module _ {X : Type 0} (p : X → Bool) where
  -- elements that don't pass, and one that does
  pub length_before : (front : List X) (x : X) (later : List X) → list_any p front ≡ false → p x ≡ true → position_or_len p (front ++ x ∷ later) ≡ length front
  length_before [] x later none passes = rw passes refl
  length_before (y ∷ front) x later none passes =
      let parts = or_parts (p y) (list_any p front) none in
      rw (parts.0, length_before front x later parts.1 passes) (omega arith)

  pub at_first : (front : List X) (x : X) (later : List X) → list_any p front ≡ false → p x ≡ true → position p (front ++ x ∷ later) ≡ Some (length front)
  at_first front x later none passes =
      let within : length front < length (front ++ x ∷ later) = omega (arith, length-append front (x ∷ later)) in
      rw (length_before front x later none passes, lt-ltb (length front) (length (front ++ x ∷ later)) within) refl

  -- none passes before the first that does
  none_before : (xs : List X) → list_any p (take (position_or_len p xs) xs) ≡ false
  none_before xs = list_any_none p (take (position_or_len p xs) xs) (λ k d l.
      let within : k < position_or_len p xs = omega (arith, l, length-take (position_or_len p xs) xs) in
      ap p (get_or-take (position_or_len p xs) xs k d within) ∙ fails_before_first p xs k d within)

  pub first_is : (xs : List X) (i : ℕ) → position p xs ≡ Some i → (d : X) → list_any p (take i xs) ≡ false × (xs ≡ take i xs ++ (get_or xs i d ∷ drop (i + 1) xs)) × (p (get_or xs i d) ≡ true)
  first_is xs i e d =
      let found = cond_some (nat_lt (position_or_len p xs) (length xs)) (position_or_len p xs) i e in
      let within = ltb-true (position_or_len p xs) (length xs) found.0 in
      subst (λ (n : ℕ). list_any p (take n xs) ≡ false × (xs ≡ take n xs ++ (get_or xs n d ∷ drop (n + 1) xs)) × (p (get_or xs n d) ≡ true)) found.1
      (none_before xs, split_at_first p xs d within, passes_at_first p xs d within)
