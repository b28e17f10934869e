-- What tests say that answered false.
use Rattle.std.proofs.Common.{◌≡◌, Bool, true, false, cond, ◌&&◌, ◌||◌, List, [], ◌∷◌, Option, Some, None, Result, Ok, Err, ◌⊎◌, inl, inr, refl, subst}
use Rattle.std.specs.Prelude.{find}
use Rattle.std.specs.List.{list_any}
use Rattle.std.proofs.lemmas.Bool.{or_parts}
use Rattle.arch_file.specs.declared.fault.Entry.{Entry}
use Rattle.arch_file.specs.Faults.{first_fault}

-- no test of a line found a fault
pub record IsFaultless (bad_number bad_word unsupported too_many : Bool) : Type 0 where
  pub no_bad_number : bad_number ≡ false
  pub no_bad_word : bad_word ≡ false
  pub no_unsupported : unsupported ≡ false
  pub not_too_many : too_many ≡ false

pub accepted : {X : Type 0} (n w u t : Bool) (x said : X) → first_fault n w u t x ≡ Ok said → IsFaultless n w u t × (x ≡ said)
accepted true w u t x said e = absurd cc
accepted false true u t x said e = absurd cc
accepted false false true t x said e = absurd cc
accepted false false false true x said e = absurd cc
accepted false false false false x said e = (record { no_bad_number = refl; no_bad_word = refl; no_unsupported = refl; not_too_many = refl }, cc)

pub or_true : (a b : Bool) → (a || b) ≡ true → a ≡ false → b ≡ true
or_true true b e h = absurd cc
or_true false b e h = e

pub and_false : (a b : Bool) → (a && b) ≡ false → a ≡ true → b ≡ false
and_false true b e h = e
and_false false b e h = absurd cc

-- a test of a ladder that was passed, and the rest of the ladder
pub passed : (b : Bool) (x : Entry) (r : Option Entry) → cond b (Some x) r ≡ None → (b ≡ false) × (r ≡ None)
passed true x r e = absurd cc
passed false x r e = (refl, e)

pub not_err : {A E : Type 0} (b : Bool) (f : E) (r : Result A E) (y : A) → cond b (Err f) r ≡ Ok y → (b ≡ false) × (r ≡ Ok y)
not_err true f r y e = absurd cc
not_err false f r y e = (refl, e)

first_or_rest : {X : Type 0} (b : Bool) (y x : X) (r : Option X) → cond b (Some y) r ≡ Some x → ((b ≡ true) × (y ≡ x)) ⊎ (r ≡ Some x)
first_or_rest true y x r e = inl (refl, cc)
first_or_rest false y x r e = inr e

-- what was found passes the test by which it was sought
pub found_passes : {X : Type 0} (sought : X → Bool) (xs : List X) (x : X) → find sought xs ≡ Some x → sought x ≡ true
found_passes sought [] x e = absurd cc
found_passes sought (y ∷ ys) x e =
    elim (first_or_rest (sought y) y x (find sought ys) e) [
      | inl h ↦ subst (λ z. sought z ≡ true) h.1 h.0
      | inr h ↦ found_passes sought ys x h
    ]

-- what was found fails a test that nothing passes
pub found_fails : {X : Type 0} (sought test : X → Bool) (xs : List X) (x : X) → list_any test xs ≡ false → find sought xs ≡ Some x → test x ≡ false
found_fails sought test [] x none e = absurd cc
found_fails sought test (y ∷ ys) x none e =
    let split = or_parts (test y) (list_any test ys) none in
    elim (first_or_rest (sought y) y x (find sought ys) e) [
      | inl h ↦ subst (λ z. test z ≡ false) h.1 split.0
      | inr h ↦ found_fails sought test ys x split.1 h
    ]
