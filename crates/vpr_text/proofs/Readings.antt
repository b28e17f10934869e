-- What follows from what a reader gave.
use Rattle.std.proofs.Common.{◌≡◌, Option, Some, None, Result, Ok, Err, refl, subst}
use Rattle.std.specs.Prelude.{IfOk}
use Rattle.vpr_text.specs.Readings.{◌>>=◌, Gives, unless_faulty, with_fault}

-- the value of a step that did not fail
pub bind_ok : {A B F : Type 0} (r : Result A F) (f : A → Result B F) (y : B) → (r >>= f) ≡ Ok y → (x : A) × (r ≡ Ok x) × (f x ≡ Ok y)
bind_ok (Ok x) f y e = (x, refl, e)
bind_ok (Err d) f y e = absurd cc

-- what is read without a fault has none
pub not_faulty : {X F : Type 0} (fault : Option F) (r : Result X F) (x : X) → unless_faulty fault r ≡ Ok x → (fault ≡ None) × (r ≡ Ok x)
not_faulty None r x e = (refl, e)
not_faulty (Some y) r x e = absurd cc

-- what is read with its fault told as another one is read as it is
pub with_fault_ok : {X F G : Type 0} (wrap : F → G) (r : Result X F) (x : X) → with_fault wrap r ≡ Ok x → r ≡ Ok x
with_fault_ok wrap (Ok y) x e = cc
with_fault_ok wrap (Err f) x e = absurd cc

-- what a reader gave is what is given
pub given_ok : {X F : Type 0} (memory : F) (P : X → Type 0) (r given : Result X F) → Gives memory (λ x. x) r given → ((x : X) → given ≡ Ok x → P x) → IfOk r P
given_ok memory P (Ok x) given e h = h x e
given_ok memory P (Err f) given e h = tt

-- and a text that says it is read as it
pub given_only : {X F : Type 0} (memory : F) (r given : Result X F) (x : X) → Gives memory (λ y. y) r given → given ≡ Ok x → Gives memory (λ y. y) r (Ok x)
given_only memory r given x e is = subst (Gives memory (λ y. y) r) is e
