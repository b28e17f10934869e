-- Names of which each is kept once are different.
use Rattle.std.proofs.Common.{◌≡◌, ℕ, ◌+◌, ◌<◌, Bool, true, false, cond, List, [], ◌∷◌, ◌++◌, length, get_or, Option, Some, None, inl, inr, refl, sym, ap, subst, ◌∙◌, arith, length-append}
use Rattle.std.specs.Prelude.{is_some, IfSome}
use Rattle.std.specs.List.{AllByRecursion, position_from}
use Rattle.std.specs.Str.{bytes_eq}
use Rattle.std.proofs.lemmas.Bool.{cases_lt}
use Rattle.std.proofs.lemmas.List.{get_or_append_left, get_or_push}
use Rattle.net_file.specs.Names.{number_among, is_among, with_name, with_names, AreDifferent}
use Rattle.vpr_text.proofs.WordBytes.{each_joined}
use Rattle.net_file.proofs.Numbered.{one_from_same, same_itself, number_push, numbered, pushed, kept}

true_false : {P : Type 0} (b : Bool) → b ≡ true → b ≡ false → P
true_false true e f = absurd cc
true_false false e f = absurd cc

none_different : AreDifferent []
none_different = λ n lt. absurd (omega (arith, lt))

-- another name than a new one
other : (names : List (List ℕ)) (x : List ℕ) (n : ℕ) (b : Bool) → bytes_eq x (get_or names n []) ≡ b → is_among names x ≡ false → number_among names (get_or names n []) ≡ Some n
    → cond b (Some (length names)) (number_among names (get_or names n [])) ≡ Some n
other names x n true e new here =
    let found : number_among names x ≡ Some n = ap (number_among names) (one_from_same x (get_or names n []) e) ∙ here in
    true_false (is_among names x) (sym (numbered names x) ∙ ap is_some found) new
other names x n false e new here = here

different_push : (names : List (List ℕ)) (x : List ℕ) → AreDifferent names → is_among names x ≡ false → AreDifferent (names ++ x ∷ [])
different_push names x different new n lt =
    elim (cases_lt n (length names)) [
      | inl below ↦ (
          let at : get_or (names ++ x ∷ []) n [] ≡ get_or names n [] = get_or_append_left names (x ∷ []) [] n below in
          ap (number_among (names ++ x ∷ [])) at ∙ number_push names x (get_or names n []) (bytes_eq x (get_or names n [])) refl new
          ∙ other names x n (bytes_eq x (get_or names n [])) refl new (different n below))
      | inr past ↦ (
          let last : length names ≡ n = omega (arith, past, lt, length-append names (x ∷ [])) in
          ap (number_among (names ++ x ∷ [])) (get_or_push names x [] n last) ∙ number_push names x x true (same_itself x) new ∙ ap Some last)
    ]

different_more : (names : List (List ℕ)) (x : List ℕ) (b : Bool) → is_among names x ≡ b → AreDifferent names → AreDifferent (with_name names x)
different_more names x true e different = subst AreDifferent (sym (kept names x e)) different
different_more names x false e different = subst AreDifferent (sym (pushed names x e)) (different_push names x different e)

different_with : (names new : List (List ℕ)) → AreDifferent names → AreDifferent (with_names names new)
different_with names [] different = different
different_with names (x ∷ xs) different = different_with (with_name names x) xs (different_more names x (is_among names x) refl different)

-- names of which each is kept once
pub distinct_differ : (names : List (List ℕ)) → AreDifferent (with_names [] names)
distinct_differ names = different_with [] names none_different

-- ---- what holds of each name

each_more : (P : List ℕ → Type 0) (names : List (List ℕ)) (x : List ℕ) (b : Bool) → is_among names x ≡ b → AllByRecursion P names → P x → AllByRecursion P (with_name names x)
each_more P names x true e h here = subst (AllByRecursion P) (sym (kept names x e)) h
each_more P names x false e h here = subst (AllByRecursion P) (sym (pushed names x e)) (each_joined P names (x ∷ []) h (here, tt))

each_with : (P : List ℕ → Type 0) (names new : List (List ℕ)) → AllByRecursion P names → AllByRecursion P new → AllByRecursion P (with_names names new)
each_with P names [] h k = h
each_with P names (x ∷ xs) h k = each_with P (with_name names x) xs (each_more P names x (is_among names x) refl h k.0) k.1

pub distinct_each : (P : List ℕ → Type 0) (names : List (List ℕ)) → AllByRecursion P names → AllByRecursion P (with_names [] names)
distinct_each P names h = each_with P [] names tt h

-- ---- a name's number

number_within : (p : List ℕ → Bool) (k : ℕ) (names : List (List ℕ)) → IfSome (position_from p k names) (λ n. n < k + length names)
number_within p k [] = tt
number_within p k (x ∷ xs) = by (p x) (position_from p (k + 1) xs) (number_within p (k + 1) xs)
  where
    by : (b : Bool) (r : Option ℕ) → IfSome r (λ n. n < (k + 1) + length xs) → IfSome (cond b (Some k) r) (λ n. n < k + length (x ∷ xs))
    by true r h = omega arith
    by false None h = tt
    by false (Some n) h = omega (arith, h)

-- it is below the count of the names
pub number_below : (names : List (List ℕ)) (name : List ℕ) → IfSome (number_among names name) (λ n. n < length names)
unfolding number_among
number_below names name = plain (position_from (bytes_eq name) 0 names) (number_within (bytes_eq name) 0 names)
  where
    plain : (r : Option ℕ) → IfSome r (λ n. n < 0 + length names) → IfSome r (λ n. n < length names)
    plain None h = tt
    plain (Some n) h = omega (arith, h)
