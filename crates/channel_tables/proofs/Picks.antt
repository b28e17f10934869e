-- The places of the elements that pass a test, in lists that are joined, mapped or filtered.
use Rattle.std.proofs.Common.{◌≡◌, ℕ, ◌+◌, ◌<◌, inl, inr, zero, suc, Bool, true, false, cond, List, [], ◌∷◌, ◌++◌, length, map, take, get_or, Option, Some, refl, sym, ap, ◌∙◌, subst, arith, zero-add}
use Rattle.std.specs.Prelude.{◌==◌, ◌&&◌, nat_lt, slice_get}
use Rattle.std.specs.List.{range_with_len, filter, flat_map}
use Rattle.std.proofs.lemmas.Bool.{lt-ltb, le-ltb, ne_eqb, eq-eqb, cases_order}
use Rattle.std.proofs.lemmas.List.{append-nil, append_assoc, take_more, length-take}
use Rattle.std.proofs.lemmas.List.FromFn.{length-range_with_len}
use Rattle.channel_tables.specs.Picks.{picks}
use Rattle.channel_tables.proofs.Ranges.{filter_next}
use Rattle.channel_tables.proofs.Windows.{flat_map_next}

module _ {X : Type 0} (p : X → Bool) where
  picks-cond : (b : Bool) (i : ℕ) (ms ns : List ℕ) → cond b (i ∷ (ms ++ ns)) (ms ++ ns) ≡ cond b (i ∷ ms) ms ++ ns
  picks-cond true i ms ns = refl
  picks-cond false i ms ns = refl

  pub picks-append : (i : ℕ) (xs ys : List X) → picks p i (xs ++ ys) ≡ picks p i xs ++ picks p (i + length xs) ys
  picks-append i [] ys = let e : i ≡ i + 0 = omega arith in ap (λ j. picks p j ys) e
  picks-append i (x ∷ xs) ys =
      let e : i + 1 + length xs ≡ i + suc (length xs) = omega arith in
      ap (λ ns. cond (p x) (i ∷ ns) ns) (picks-append (i + 1) xs ys ∙ ap (λ j. picks p (i + 1) xs ++ picks p j ys) e)
      ∙ picks-cond (p x) i (picks p (i + 1) xs) (picks p (i + suc (length xs)) ys)

  -- each piece counts on from what stands before it
  pub picks-flat_map :
      (g : ℕ → List X) (i n : ℕ)
      → picks p i (flat_map g (range_with_len 0 n)) ≡ flat_map (λ k. picks p (i + length (flat_map g (range_with_len 0 k))) (g k)) (range_with_len 0 n)
  picks-flat_map g i zero = refl
  picks-flat_map g i (suc n) =
      let e : suc n ≡ n + 1 = omega arith in
      let piece : ℕ → List ℕ = λ k. picks p (i + length (flat_map g (range_with_len 0 k))) (g k) in
      ap (λ m. picks p i (flat_map g (range_with_len 0 m))) e ∙ ap (picks p i) (flat_map_next g n)
      ∙ picks-append i (flat_map g (range_with_len 0 n)) (g n) ∙ ap (λ ns. ns ++ piece n) (picks-flat_map g i n)
      ∙ sym (flat_map_next piece n) ∙ ap (λ m. flat_map piece (range_with_len 0 m)) (sym e)

  pub picks-map : {A : Type 0} (h : A → X) (i : ℕ) (xs : List A) → picks p i (map h xs) ≡ picks (λ x. p (h x)) i xs
  picks-map h i [] = refl
  picks-map h i (x ∷ xs) = ap (λ ns. cond (p (h x)) (i ∷ ns) ns) (picks-map h (i + 1) xs)

  -- tests that agree at each element pick the same
  pub picks_agree_in : (q : X → Bool) (i : ℕ) (xs : List X) → ((k : ℕ) (x : X) → slice_get xs k ≡ Some x → p x ≡ q x) → picks p i xs ≡ picks q i xs
  picks_agree_in q i [] h = refl
  picks_agree_in q i (x ∷ xs) h =
      ap (λ b. cond b (i ∷ picks p (i + 1) xs) (picks p (i + 1) xs)) (h 0 x refl)
      ∙ ap (λ ns. cond (q x) (i ∷ ns) ns) (picks_agree_in q (i + 1) xs (λ k z e. h (suc k) z e))

  pub picks_agree : (q : X → Bool) → ((x : X) → p x ≡ q x) → (i : ℕ) (xs : List X) → picks p i xs ≡ picks q i xs
  picks_agree q h i xs = picks_agree_in q i xs (λ k x e. h x)

  pub picks_none_in : (i : ℕ) (xs : List X) → ((k : ℕ) (x : X) → slice_get xs k ≡ Some x → p x ≡ false) → picks p i xs ≡ []
  picks_none_in i [] h = refl
  picks_none_in i (x ∷ xs) h =
      ap (λ b. cond b (i ∷ picks p (i + 1) xs) (picks p (i + 1) xs)) (h 0 x refl) ∙ picks_none_in (i + 1) xs (λ k z e. h (suc k) z e)

  pub picks_none : ((x : X) → p x ≡ false) → (i : ℕ) (xs : List X) → picks p i xs ≡ []
  picks_none h i xs = picks_none_in i xs (λ k x e. h x)

  pub picks_shift : (i j : ℕ) (xs : List X) → picks p (i + j) xs ≡ map (λ k. i + k) (picks p j xs)
  picks_shift i j [] = refl
  picks_shift i j (x ∷ xs) =
      let e : i + j + 1 ≡ i + (j + 1) = omega arith in
      ap (λ ns. cond (p x) ((i + j) ∷ ns) ns) (ap (λ m. picks p m xs) e ∙ picks_shift i (j + 1) xs) ∙ moved (p x) (picks p (j + 1) xs)
    where
      moved : (b : Bool) (ns : List ℕ) → cond b ((i + j) ∷ map (λ k. i + k) ns) (map (λ k. i + k) ns) ≡ map (λ k. i + k) (cond b (j ∷ ns) ns)
      moved true ns = refl
      moved false ns = refl

  pub length-picks : (i : ℕ) (xs : List X) → length (picks p i xs) ≡ length (filter p xs)
  length-picks i [] = refl
  length-picks i (x ∷ xs) = counted (p x) (picks p (i + 1) xs) (filter p xs) (length-picks (i + 1) xs)
    where
      counted : (b : Bool) (ns : List ℕ) (ys : List X) → length ns ≡ length ys → length (cond b (i ∷ ns) ns) ≡ length (cond b (x ∷ ys) ys)
      counted true ns ys e = ap (λ n. suc n) e
      counted false ns ys e = e

  pub picks_one : (b : Bool) (i : ℕ) (x : X) → picks p i (cond b (x ∷ []) []) ≡ cond (b && p x) (i ∷ []) []
  picks_one true i x = refl
  picks_one false i x = refl

-- ---- the places in a list as far as a loop has come
pub picks_more :
    {X : Type 0} (p : X → Bool) (s : ℕ) (xs : List X) (i : ℕ) (d : X) → i < length xs
    → picks p s (take (i + 1) xs) ≡ picks p s (take i xs) ++ cond (p (get_or xs i d)) ((s + i) ∷ []) []
picks_more p s xs i d l =
    let e : s + length (take i xs) ≡ s + i = omega (arith, length-take i xs) in
    ap (picks p s) (take_more xs i d l) ∙ picks-append p s (take i xs) (get_or xs i d ∷ [])
    ∙ ap (λ j. picks p s (take i xs) ++ cond (p (get_or xs i d)) (j ∷ []) []) e

module _ {X : Type 0} (p : X → Bool) (ns : List ℕ) (xs : List X) (i : ℕ) (d : X) (l : i < length xs) where
  picks_next : picks p 0 (take (i + 1) xs) ≡ picks p 0 (take i xs) ++ cond (p (get_or xs i d)) (i ∷ []) []
  picks_next =
      let e : 0 + length (take i xs) ≡ i = omega (arith, length-take i xs) in
      ap (picks p 0) (take_more xs i d l) ∙ picks-append p 0 (take i xs) (get_or xs i d ∷ [])
      ∙ ap (λ j. picks p 0 (take i xs) ++ cond (p (get_or xs i d)) (j ∷ []) []) e

  pub picked_more : p (get_or xs i d) ≡ true → (ns ++ picks p 0 (take i xs)) ++ (i ∷ []) ≡ ns ++ picks p 0 (take (i + 1) xs)
  picked_more e =
      append_assoc ns (picks p 0 (take i xs)) (i ∷ [])
      ∙ ap (λ ms. ns ++ ms) (sym (picks_next ∙ ap (λ b. picks p 0 (take i xs) ++ cond b (i ∷ []) []) e))

  pub passed_more : p (get_or xs i d) ≡ false → ns ++ picks p 0 (take i xs) ≡ ns ++ picks p 0 (take (i + 1) xs)
  passed_more e =
      ap (λ ms. ns ++ ms) (sym (picks_next ∙ ap (λ b. picks p 0 (take i xs) ++ cond b (i ∷ []) []) e ∙ append-nil (picks p 0 (take i xs))))

-- a range filtered by what stands in a list at each index
pub filter_indexes :
    {X : Type 0} (r : ℕ → Bool) (q : Option X → Bool) (a : ℕ) (xs : List X) → ((k : ℕ) → k < length xs → r (a + k) ≡ q (slice_get xs k))
    → filter r (range_with_len a (length xs)) ≡ picks (λ x. q (Some x)) a xs
filter_indexes r q a [] h = refl
filter_indexes r q a (x ∷ xs) h =
    let here : r a ≡ q (Some x) = (let e : a ≡ a + 0 = omega arith in ap r e ∙ h 0 (omega arith)) in
    ap (λ b. cond b (a ∷ filter r (range_with_len (a + 1) (length xs))) (filter r (range_with_len (a + 1) (length xs)))) here
    ∙ ap (λ ns. cond (q (Some x)) (a ∷ ns) ns)
    (filter_indexes r q (a + 1) xs (λ k l. let e : a + 1 + k ≡ a + suc k = omega arith in ap r e ∙ h (suc k) (omega arith)))

pub filter_by_index :
    {X : Type 0} (test : Option X → Bool) (xs : List X)
    → filter (λ j. test (slice_get xs j)) (range_with_len 0 (length xs)) ≡ picks (λ x. test (Some x)) 0 xs
filter_by_index test xs = filter_indexes (λ j. test (slice_get xs j)) test 0 xs (λ k l. ap (λ j. test (slice_get xs j)) (zero-add k))

-- ---- one number among those of a range that pass
abbrev one : (a b c : Bool) → ℕ → List ℕ
one a b c i = cond (a && (b && c)) (i ∷ []) []

one_kept : (a b c : Bool) (i j : ℕ) → one a true c i ++ one b false c j ≡ one a true c i
one_kept a true c i j = append-nil (one a true c i)
one_kept a false c i j = append-nil (one a true c i)

one_added : (a c : Bool) (i : ℕ) → one a false c i ++ one a true c i ≡ one a true c i
one_added true c i = refl
one_added false c i = refl

one_absent : (a b c : Bool) (i j : ℕ) → one a false c i ++ one b false c j ≡ one a false c i
one_absent true true c i j = refl
one_absent true false c i j = refl
one_absent false true c i j = refl
one_absent false false c i j = refl

one_of_none : (a c : Bool) (i : ℕ) → [] ≡ one a false c i
one_of_none true c i = refl
one_of_none false c i = refl

module _ (q : ℕ → Bool) (c : Bool) (at : ℕ → ℕ) (t : ℕ) where
  abbrev OneMore : ℕ → (before here after : Bool) → Type 0
  OneMore m before here after = one (q t) before c (at t) ++ one (q m) here c (at m) ≡ one (q t) after c (at t)

  one_reported :
      (m : ℕ) (before here after : Bool) → nat_lt t m ≡ before → (m == t) ≡ here → nat_lt t (m + 1) ≡ after → OneMore m before here after
      → OneMore m (nat_lt t m) (m == t) (nat_lt t (m + 1))
  one_reported m before here after u v w h = rw (u, v, w) h

  one_more : (m : ℕ) → OneMore m (nat_lt t m) (m == t) (nat_lt t (m + 1))
  one_more m = elim (cases_order t m) [
    | inl e ↦ one_reported m false true true (le-ltb t m (omega arith)) (eq-eqb m t (sym e)) (lt-ltb t (m + 1) (omega arith))
        (subst (λ n. OneMore n false true true) e (one_added (q t) c (at t)))
    | inr (inl l) ↦ one_reported m true false true (lt-ltb t m l) (ne_eqb m t (λ e. omega arith)) (lt-ltb t (m + 1) (omega arith))
        (one_kept (q t) (q m) c (at t) (at m))
    | inr (inr l) ↦ one_reported m false false false (le-ltb t m (omega arith)) (ne_eqb m t (λ e. omega arith)) (le-ltb t (m + 1) (omega arith))
        (one_absent (q t) (q m) c (at t) (at m))
  ]

pub picks_filtered :
    (q : ℕ → Bool) (c : Bool) (t i m : ℕ)
    → picks (λ n. (n == t) && c) i (filter q (range_with_len 0 m)) ≡ cond (q t && (nat_lt t m && c)) ((i + length (filter q (range_with_len 0 t))) ∷ []) []
picks_filtered q c t i zero =
    let at = i + length (filter q (range_with_len 0 t)) in
    one_of_none (q t) c at ∙ ap (λ b. one (q t) b c at) (sym (le-ltb t 0 (omega arith)))
picks_filtered q c t i (suc m) =
    let e : suc m ≡ m + 1 = omega arith in
    let test : ℕ → Bool = λ n. (n == t) && c in
    let at : ℕ → ℕ = λ n. i + length (filter q (range_with_len 0 n)) in
    ap (λ n. picks test i (filter q (range_with_len 0 n))) e ∙ ap (picks test i) (filter_next q m)
    ∙ picks-append test i (filter q (range_with_len 0 m)) (cond (q m) (m ∷ []) [])
    ∙ ap (λ ns. ns ++ picks test (at m) (cond (q m) (m ∷ []) [])) (picks_filtered q c t i m)
    ∙ ap (λ ns. one (q t) (nat_lt t m) c (at t) ++ ns) (picks_one test (q m) (at m) m)
    ∙ one_more q c at t m ∙ ap (λ n. one (q t) (nat_lt t n) c (at t)) (sym e)

all_kept : (a n : ℕ) → filter (λ k. true) (range_with_len a n) ≡ range_with_len a n
all_kept a zero = refl
all_kept a (suc n) = ap (λ ns. a ∷ ns) (all_kept (a + 1) n)

pub picks_below : (c : Bool) (t i m : ℕ) → picks (λ n. (n == t) && c) i (range_with_len 0 m) ≡ cond (nat_lt t m && c) ((i + t) ∷ []) []
picks_below c t i m =
    ap (picks (λ n. (n == t) && c) i) (sym (all_kept 0 m)) ∙ picks_filtered (λ k. true) c t i m
    ∙ ap (λ k. cond (nat_lt t m && c) ((i + k) ∷ []) []) (ap length (all_kept 0 t) ∙ length-range_with_len 0 t)
