-- Elements that pass tests, in lists that were filtered, joined and mapped, and sums over them.
use Rattle.std.proofs.Common.{◌≡◌, ℕ, ◌+◌, ◌*◌, ◌≤◌, zero, suc, Bool, true, false, ◌||◌, cond, List, [], ◌∷◌, ◌++◌, length, map, ap₂, Option, Some, None, inl, inr, refl, sym, ap, ◌∙◌, subst, arith}
use Rattle.std.specs.Prelude.{Contains, count_by}
use Rattle.std.specs.List.{sum_by, filter, filter_map, flat_map, list_any, list_all, cons_option}
use Rattle.std.proofs.lemmas.Bool.{and_parts, both_ways, cases_Bool, cond_both, or_cases, or_left, or_right}
use Rattle.std.proofs.lemmas.List.Elements.{Contains-append_left, Contains-append_right}
use Rattle.std.proofs.lemmas.List.Sums.{sum_by-cons, sum_by-append}

abbrev one_if : Bool → ℕ
one_if b = cond b 1 0

module _ {X : Type 0} where
  -- ---- the first element, or one of the others
  pub head_or_rest : (P : X → Type 0) (y : X) (ys : List X) (x : X) → Contains (y ∷ ys) x → P y → (Contains ys x → P x) → P x
  head_or_rest P y ys x (zero, l, e) at rest = subst P e at
  head_or_rest P y ys x (suc k, l, e) at rest = rest (k, omega arith, e)

  pub contains_head : (x : X) (xs : List X) → Contains (x ∷ xs) x
  contains_head x xs = (zero, omega arith, refl)

  pub contains_more : (y : X) (xs : List X) (x : X) → Contains xs x → Contains (y ∷ xs) x
  contains_more y xs x h = Contains-append_right (y ∷ []) xs x h

  none_contained : (x : X) → Contains [] x → ⊥
  none_contained x h = omega (arith, h.1)

  -- ---- what passes a filter
  pub contains_kept : (p : X → Bool) (xs : List X) (x : X) → Contains xs x → p x ≡ true → Contains (filter p xs) x
  contains_kept p [] x h t = absurd (none_contained x h)
  contains_kept p (y ∷ ys) x h t =
      let more : Contains ys x → Contains (filter p ys) x = λ r. contains_kept p ys x r t in
      cond_both (p y) (y ∷ filter p ys) (filter p ys) (λ zs. Contains zs x)
      (λ e. head_or_rest (λ z. Contains (y ∷ filter p ys) z) y ys x h (contains_head y (filter p ys)) (λ r. contains_more y (filter p ys) x (more r)))
      (λ e. head_or_rest (λ z. p z ≡ true → Contains (filter p ys) z) y ys x h (λ d. absurd (both_ways (p y) e d)) (λ r _. more r) t)

  -- ---- what is mapped, and joined
  pub contains_mapped : {Y : Type 0} (g : X → Y) (xs : List X) (x : X) → Contains xs x → Contains (map g xs) (g x)
  contains_mapped g [] x h = absurd (none_contained x h)
  contains_mapped g (y ∷ ys) x h =
      head_or_rest (λ z. Contains (g y ∷ map g ys) (g z)) y ys x h (zero, omega arith, refl) (λ r. let m = contains_mapped g ys x r in (suc m.0, omega (arith, m.1), m.2))

  pub contains_joined : {Y : Type 0} (g : X → List Y) (xs : List X) (x : X) (y : Y) → Contains xs x → Contains (g x) y → Contains (flat_map g xs) y
  contains_joined g [] x y h i = absurd (none_contained x h)
  contains_joined g (z ∷ zs) x y h i =
      head_or_rest (λ w. Contains (g w) y → Contains (g z ++ flat_map g zs) y) z zs x h (Contains-append_left (g z) (flat_map g zs) y)
      (λ r m. Contains-append_right (g z) (flat_map g zs) y (contains_joined g zs x y r m)) i

  -- ---- tests
  pub any_at : (test : X → Bool) (xs : List X) (x : X) → Contains xs x → test x ≡ true → list_any test xs ≡ true
  any_at test [] x h t = absurd (none_contained x h)
  any_at test (y ∷ ys) x h t =
      head_or_rest (λ z. test z ≡ true → (test y || list_any test ys) ≡ true) y ys x h (or_left (test y) (list_any test ys))
      (λ r e. or_right (test y) (list_any test ys) (any_at test ys x r e)) t

  pub all_at : (test : X → Bool) (xs : List X) (x : X) → list_all test xs ≡ true → Contains xs x → test x ≡ true
  all_at test [] x a h = absurd (none_contained x h)
  all_at test (y ∷ ys) x a h =
      let parts = and_parts (test y) (list_all test ys) a in
      head_or_rest (λ z. test z ≡ true) y ys x h parts.0 (λ r. all_at test ys x parts.1 r)

  -- the element that passes
  pub any_found : (test : X → Bool) (xs : List X) → list_any test xs ≡ true → (x : X) × Contains xs x × (test x ≡ true)
  any_found test [] a = absurd (both_ways false refl a)
  any_found test (y ∷ ys) a = elim (or_cases (test y) (list_any test ys) a) [
    | inl here ↦ (y, contains_head y ys, here)
    | inr later ↦ (let r = any_found test ys later in (r.0, contains_more y ys r.0 r.1, r.2))
  ]

  pub found_in_mapped : {Y : Type 0} (g : X → Option Y) (test : Y → Bool) (xs : List X) → list_any test (filter_map g xs) ≡ true → (x : X) × (y : Y) × Contains xs x × (g x ≡ Some y) × (test y ≡ true)
  found_in_mapped g test [] a = absurd (both_ways false refl a)
  found_in_mapped {Y} g test (z ∷ zs) a = at (g z) refl a (λ b. found_in_mapped g test zs b)
    where
      at : (o : Option Y) → g z ≡ o → list_any test (cons_option o (filter_map g zs)) ≡ true → (list_any test (filter_map g zs) ≡ true → (x : X) × (y : Y) × Contains zs x × (g x ≡ Some y) × (test y ≡ true)) → (x : X) × (y : Y) × Contains (z ∷ zs) x × (g x ≡ Some y) × (test y ≡ true)
      at None e b rest = let r = rest b in (r.0, r.1, contains_more z zs r.0 r.2, r.3, r.4)
      at (Some y) e b rest = elim (or_cases (test y) (list_any test (filter_map g zs)) b) [
        | inl here ↦ (z, y, contains_head z zs, e, here)
        | inr later ↦ (let r = rest later in (r.0, r.1, contains_more z zs r.0 r.2, r.3, r.4))
      ]

  -- ---- a test that one element passes
  counted : (test : X → Bool) (y : X) (ys : List X) → count_by test (y ∷ ys) ≡ one_if (test y) + count_by test ys
  counted test y ys = sum_by-cons (λ x. cond (test x) 1 0) y ys

  pub one_counted : (test : X → Bool) (xs : List X) (x : X) → Contains xs x → test x ≡ true → 1 ≤ count_by test xs
  one_counted test [] x h t = absurd (none_contained x h)
  one_counted test (y ∷ ys) x h t =
      let here = counted test y ys in
      head_or_rest (λ z. test z ≡ true → 1 ≤ count_by test (y ∷ ys)) y ys x h
      (λ d. let w = ap one_if d in omega (arith, here, w))
      (λ r e. let m = one_counted test ys x r e in omega (arith, here, m)) t

  -- where one is counted, two that pass are one
  pub only_one : (test : X → Bool) (xs : List X) (x y : X) → count_by test xs ≡ 1 → Contains xs x → Contains xs y → test x ≡ true → test y ≡ true → x ≡ y
  only_one test [] x y one h i s t = absurd (none_contained x h)
  only_one test (z ∷ zs) x y one h i s t =
      let here = counted test z zs in
      elim (cases_Bool (test z)) [
        | inl passes ↦ (
            let w = ap one_if passes in
            let alone : (v : X) → Contains (z ∷ zs) v → test v ≡ true → z ≡ v = λ v j u. head_or_rest (λ u. test u ≡ true → z ≡ u) z zs v j (λ _. refl)
            (λ r e. let m = one_counted test zs v r e in absurd (omega (arith, here, w, one, m))) u in
            sym (alone x h s) ∙ alone y i t)
        | inr fails ↦ (
            let w = ap one_if fails in
            let later : (v : X) → Contains (z ∷ zs) v → test v ≡ true → Contains zs v = λ v j u. head_or_rest (λ u. test u ≡ true → Contains zs u) z zs v j
            (λ d. absurd (both_ways (test z) fails d)) (λ r _. r) u in
            only_one test zs x y (omega (arith, here, w, one)) (later x h s) (later y i t) s t)
      ]

  -- ---- sums
  pub sum_joined : {Y : Type 0} (h : Y → ℕ) (g : X → List Y) (most : ℕ) → ((x : X) → sum_by h (g x) ≤ most) → (xs : List X) → sum_by h (flat_map g xs) ≤ length xs * most
  sum_joined h g most each [] = omega arith
  sum_joined h g most each (x ∷ xs) = omega (arith, sum_by-append h (g x) (flat_map g xs), each x, sum_joined h g most each xs)

  pub sum_mapped : {Y : Type 0} (h : Y → ℕ) (g : X → Y) (most : ℕ) → ((x : X) → h (g x) ≤ most) → (xs : List X) → sum_by h (map g xs) ≤ length xs * most
  sum_mapped h g most each [] = omega arith
  sum_mapped h g most each (x ∷ xs) = omega (arith, sum_by-cons h (g x) (map g xs), each x, sum_mapped h g most each xs)

-- two tests that agree pass alike
pub any_alike : {X : Type 0} (test test' : X → Bool) → ((x : X) → test x ≡ test' x) → (xs : List X) → list_any test xs ≡ list_any test' xs
any_alike test test' h [] = refl
any_alike test test' h (x ∷ xs) = ap₂ (λ b c. b || c) (h x) (any_alike test test' h xs)
