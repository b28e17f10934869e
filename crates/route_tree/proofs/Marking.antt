-- Marks by stamps, as a list of which numbers are marked.
use Rattle.std.proofs.Common.{◌≡◌, ℕ, ◌<◌, ◌≤◌, ◌==◌, zero, suc, Bool, true, false, List, [], ◌∷◌, ◌++◌, length, map, get_or, replicate, set, ◌||◌, All, inl, inr, subst, refl, sym, ap, ◌∙◌, arith}
use Rattle.route_tree.specs.Legality.{is_among}
use Rattle.route_tree.specs.kept.Marked.{IsMarked}
use Rattle.std.proofs.lemmas.Bool.{eq-eqb, eqb-true, cases_Bool, false≢true}
use Rattle.std.proofs.lemmas.Bool.Decides.{nat_tests}
use Rattle.std.proofs.lemmas.List.{length-map, map-set, get_or-map, get_or-set_same, get_or-set_other, length-replicate, get_or-replicate, same_lists}
use Rattle.std.proofs.lemmas.List.Folds.{list_any-append}

below_not : (m stamp : ℕ) → m < stamp → (m == stamp) ≡ false
below_not m stamp l = grind (arith, nat_tests, l)

-- no number has a stamp that is above all
pub cleared : (stamp : ℕ) (marks : List ℕ) → All (λ m. m < stamp) marks → map (λ m. m == stamp) marks ≡ replicate (length marks) false
cleared stamp marks h =
    same_lists (map (λ m. m == stamp) marks) (replicate (length marks) false)
    (length-map marks (λ m. m == stamp) ∙ sym (length-replicate (length marks) false))
    (λ k d l.
    let within : k < length marks = omega (arith, l, length-map marks (λ m. m == stamp)) in
    get_or-map (λ m. m == stamp) marks k 0 d within ∙ below_not (get_or marks k 0) stamp (h k 0 within) ∙ sym (get_or-replicate (length marks) k false d within))

pub all_below : (stamp : ℕ) (marks : List ℕ) → All (λ m. m < stamp) marks → All (λ m. m ≤ stamp) marks
all_below stamp marks h = λ k d l. let b = h k d l in omega (arith, b)

pub marked : (stamp : ℕ) (marks : List ℕ) (i : ℕ) → map (λ m. m == stamp) (set marks i stamp) ≡ set (map (λ m. m == stamp) marks) i true
marked stamp marks i = map-set (λ m. m == stamp) marks i stamp ∙ ap (set (map (λ m. m == stamp) marks) i) (eq-eqb stamp stamp refl)

-- where all marks are off no number is marked
pub none_marked : (n : ℕ) → IsMarked (replicate n false) []
none_marked zero a = refl
none_marked (suc n) zero = refl
none_marked (suc n) (suc a) = none_marked n a

-- a number that is marked is among those before or is this one
pub one_more_marked : (flags : List Bool) (numbers : List ℕ) (number : ℕ) → IsMarked flags numbers → number < length flags → IsMarked (set flags number true) (numbers ++ number ∷ [])
one_more_marked flags numbers number m l a =
    elim (cases_Bool (number == a)) [
      | inl this ↦
          let e = eqb-true number a this in
          subst (λ k. get_or (set flags number true) k false ≡ true) e (get_or-set_same flags number true false l)
          ∙ sym (list_any-append (λ x. x == a) numbers (number ∷ []) ∙ ap (λ b. is_among numbers a || (b || false)) this ∙ or_true (is_among numbers a))
      | inr other ↦
          get_or-set_other flags number a true false (λ e. absurd (false≢true (sym other ∙ eq-eqb number a (sym e)))) ∙ m a
          ∙ sym (list_any-append (λ x. x == a) numbers (number ∷ []) ∙ ap (λ b. is_among numbers a || (b || false)) other ∙ or_false (is_among numbers a))
    ]
  where
    or_true : (b : Bool) → (b || (true || false)) ≡ true
    or_true true = refl
    or_true false = refl

    or_false : (b : Bool) → (b || (false || false)) ≡ b
    or_false true = refl
    or_false false = refl
