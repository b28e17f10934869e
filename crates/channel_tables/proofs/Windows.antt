-- Lists joined over a range of numbers, of which only a window gives any elements.
use Rattle.std.proofs.Common.{◌≡◌, ◌≢◌, ℕ, ◌+◌, ◌-◌, ◌<◌, ◌≤◌, ◌⊎◌, inl, inr, zero, suc, List, [], ◌∷◌, ◌++◌, length, map, Some, refl, sym, ap, ◌∙◌, arith, zero-add}
use Rattle.std.specs.Prelude.{slice_get}
use Rattle.std.specs.List.{range_with_len, flat_map}
use Rattle.std.proofs.lemmas.List.{append-nil}
use Rattle.std.proofs.lemmas.List.Concat.{flat_map-append, flat_map_single}
use Rattle.std.proofs.lemmas.Option.{none-some, same_Some}
use Rattle.channel_tables.proofs.Ranges.{joined_more}

pub range-append : (a m n : ℕ) → range_with_len a (m + n) ≡ range_with_len a m ++ range_with_len (a + m) n
range-append a zero n = let s : a ≡ a + 0 = omega arith in ap (range_with_len a) (zero-add n) ∙ ap (λ b. range_with_len b n) s
range-append a (suc m) n =
    let e : suc m + n ≡ suc (m + n) = omega arith in
    let s : a + 1 + m ≡ a + suc m = omega arith in
    ap (range_with_len a) e ∙ ap (λ ys. a ∷ ys) (range-append (a + 1) m n ∙ ap (λ b. range_with_len (a + 1) m ++ range_with_len b n) s)

module _ {X : Type 0} where
  pub flat_map_next : (g : ℕ → List X) (n : ℕ) → flat_map g (range_with_len 0 (n + 1)) ≡ flat_map g (range_with_len 0 n) ++ g n
  flat_map_next g n = sym (joined_more g [] n)

  pub flat_map_same : {A : Type 0} (g h : A → List X) → ((z : A) → g z ≡ h z) → (zs : List A) → flat_map g zs ≡ flat_map h zs
  flat_map_same g h e [] = refl
  flat_map_same g h e (z ∷ zs) = ap (λ xs. xs ++ flat_map g zs) (e z) ∙ ap (λ xs. h z ++ xs) (flat_map_same g h e zs)

  pub flat_map_agree : (g h : ℕ → List X) (a n : ℕ) → ((k : ℕ) → a ≤ k → k < a + n → g k ≡ h k) → flat_map g (range_with_len a n) ≡ flat_map h (range_with_len a n)
  flat_map_agree g h a zero e = refl
  flat_map_agree g h a (suc n) e =
      ap (λ xs. xs ++ flat_map g (range_with_len (a + 1) n)) (e a (omega arith) (omega arith))
      ∙ ap (λ xs. h a ++ xs) (flat_map_agree g h (a + 1) n (λ k l m. e k (omega arith) (omega arith)))

  pub flat_map_empty : (g : ℕ → List X) (a n : ℕ) → ((k : ℕ) → a ≤ k → k < a + n → g k ≡ []) → flat_map g (range_with_len a n) ≡ []
  flat_map_empty g a zero e = refl
  flat_map_empty g a (suc n) e =
      ap (λ xs. xs ++ flat_map g (range_with_len (a + 1) n)) (e a (omega arith) (omega arith))
      ∙ flat_map_empty g (a + 1) n (λ k l m. e k (omega arith) (omega arith))

  pub flat_map_none : (g : ℕ → List X) (n : ℕ) → ((k : ℕ) → k < n → g k ≡ []) → flat_map g (range_with_len 0 n) ≡ []
  flat_map_none g n e = flat_map_empty g 0 n (λ k l m. e k (omega arith))

  -- a range in three parts
  pub flat_map_split :
      (g : ℕ → List X) (lo len n : ℕ) → lo + len ≤ n
      → flat_map g (range_with_len 0 n)
      ≡ flat_map g (range_with_len 0 lo) ++ (flat_map g (range_with_len lo len) ++ flat_map g (range_with_len (lo + len) (n - (lo + len))))
  flat_map_split g lo len n l =
      let e : n ≡ lo + (len + (n - (lo + len))) = omega arith in
      let rest = n - (lo + len) in
      ap (λ m. flat_map g (range_with_len 0 m)) e
      ∙ ap (flat_map g) (range-append 0 lo (len + rest) ∙ ap (λ b. range_with_len 0 lo ++ range_with_len b (len + rest)) (zero-add lo))
      ∙ flat_map-append g (range_with_len 0 lo) (range_with_len lo (len + rest))
      ∙ ap (λ ys. flat_map g (range_with_len 0 lo) ++ ys)
      (ap (flat_map g) (range-append lo len rest) ∙ flat_map-append g (range_with_len lo len) (range_with_len (lo + len) rest))

  pub flat_map_window :
      (g : ℕ → List X) (lo len n : ℕ) → lo + len ≤ n → ((k : ℕ) → k < lo → g k ≡ []) → ((k : ℕ) → lo + len ≤ k → k < n → g k ≡ [])
      → flat_map g (range_with_len 0 n) ≡ flat_map g (range_with_len lo len)
  flat_map_window g lo len n l before after =
      flat_map_split g lo len n l
      ∙ ap (λ xs. xs ++ (flat_map g (range_with_len lo len) ++ flat_map g (range_with_len (lo + len) (n - (lo + len))))) (flat_map_none g lo before)
      ∙ ap (λ xs. flat_map g (range_with_len lo len) ++ xs) (flat_map_empty g (lo + len) (n - (lo + len)) (λ k a b. after k a (omega arith)))
      ∙ append-nil (flat_map g (range_with_len lo len))

  -- one number of the range gives elements
  pub flat_map_one : (g : ℕ → List X) (m n : ℕ) → m < n → ((k : ℕ) → k < n → k ≢ m → g k ≡ []) → flat_map g (range_with_len 0 n) ≡ g m
  flat_map_one g m n l none =
      flat_map_window g m 1 n (omega arith) (λ k a. none k (omega arith) (λ e. omega arith)) (λ k a b. none k b (λ e. omega arith))
      ∙ append-nil (g m)

  -- two numbers do
  pub flat_map_two :
      (g : ℕ → List X) (p q n : ℕ) → p < q → q < n → ((k : ℕ) → k < n → k ≢ p → k ≢ q → g k ≡ [])
      → flat_map g (range_with_len 0 n) ≡ g p ++ g q
  flat_map_two g p q n l m none =
      let rest = n - (q + 1) in
      flat_map_split g q 1 n (omega arith)
      ∙ ap (λ xs. xs ++ ((g q ++ []) ++ flat_map g (range_with_len (q + 1) rest)))
      (flat_map_one g p q l (λ k a b. none k (omega arith) b (λ e. omega arith)))
      ∙ ap (λ xs. g p ++ ((g q ++ []) ++ xs))
      (flat_map_empty g (q + 1) rest (λ k a b. none k (omega arith) (λ e. omega arith) (λ e. omega arith)))
      ∙ ap (λ xs. g p ++ xs) (append-nil (g q ++ []) ∙ append-nil (g q))

-- ---- an element of joined lists by its index
module _ {X : Type 0} where
  pub slice_get-append_left : (xs ys : List X) (i : ℕ) (x : X) → slice_get xs i ≡ Some x → slice_get (xs ++ ys) i ≡ Some x
  slice_get-append_left [] ys i x h = absurd (none-some x h)
  slice_get-append_left (z ∷ xs) ys zero x h = h
  slice_get-append_left (z ∷ xs) ys (suc i) x h = slice_get-append_left xs ys i x h

  pub slice_get-append_right : (xs ys : List X) (i : ℕ) → slice_get (xs ++ ys) (length xs + i) ≡ slice_get ys i
  slice_get-append_right [] ys i = ap (slice_get ys) (zero-add i)
  slice_get-append_right (z ∷ xs) ys i =
      let e : suc (length xs) + i ≡ suc (length xs + i) = omega arith in ap (slice_get (z ∷ (xs ++ ys))) e ∙ slice_get-append_right xs ys i

  pub slice_get-append_cases :
      (xs ys : List X) (i : ℕ) (x : X) → slice_get (xs ++ ys) i ≡ Some x
      → (slice_get xs i ≡ Some x) ⊎ ((j : ℕ) × (slice_get ys j ≡ Some x) × (i ≡ length xs + j))
  slice_get-append_cases [] ys i x h = inr (i, h, sym (zero-add i))
  slice_get-append_cases (z ∷ xs) ys zero x h = inl h
  slice_get-append_cases (z ∷ xs) ys (suc i) x h = elim (slice_get-append_cases xs ys i x h) [
    | inl left ↦ inl left
    | inr right ↦ inr (right.0, right.1, omega (arith, right.2))
  ]

  -- the j-th element of the k-th piece
  pub slice_get-flat_map :
      (g : ℕ → List X) (n k j : ℕ) (x : X) → k < n → slice_get (g k) j ≡ Some x
      → slice_get (flat_map g (range_with_len 0 n)) (length (flat_map g (range_with_len 0 k)) + j) ≡ Some x
  slice_get-flat_map g n k j x l h =
      let front = flat_map g (range_with_len 0 k) in
      let rest = flat_map g (range_with_len (k + 1) (n - (k + 1))) in
      ap (λ xs. slice_get xs (length front + j)) (flat_map_split g k 1 n (omega arith)) ∙ slice_get-append_right front ((g k ++ []) ++ rest) j
      ∙ slice_get-append_left (g k ++ []) rest j x (slice_get-append_left (g k) [] j x h)

  -- each element is one of a piece
  pub slice_get_from_flat_map :
      (g : ℕ → List X) (n i : ℕ) (x : X) → slice_get (flat_map g (range_with_len 0 n)) i ≡ Some x
      → (k : ℕ) × (j : ℕ) × (k < n) × (slice_get (g k) j ≡ Some x) × (i ≡ length (flat_map g (range_with_len 0 k)) + j)
  slice_get_from_flat_map g zero i x h = absurd (none-some x h)
  slice_get_from_flat_map g (suc n) i x h =
      let e : n + 1 ≡ suc n = omega arith in
      let joined = sym (flat_map_next g n) ∙ ap (λ m. flat_map g (range_with_len 0 m)) e in
      elim (slice_get-append_cases (flat_map g (range_with_len 0 n)) (g n) i x (ap (λ xs. slice_get xs i) joined ∙ h)) [
        | inl left ↦ (let r = slice_get_from_flat_map g n i x left in (r.0, r.1, omega (arith, r.2), r.3, r.4))
        | inr right ↦ (n, right.0, omega arith, right.1, right.2)
      ]

  pub slice_get_from_map : {A : Type 0} (h : A → X) (xs : List A) (i : ℕ) (x : X) → slice_get (map h xs) i ≡ Some x → (z : A) × (slice_get xs i ≡ Some z) × (h z ≡ x)
  slice_get_from_map h [] i x e = absurd (none-some x e)
  slice_get_from_map h (z ∷ xs) zero x e = (z, refl, same_Some (h z) x e)
  slice_get_from_map h (z ∷ xs) (suc i) x e = slice_get_from_map h xs i x e

-- ---- a range counted from its first number
module _ {X : Type 0} where
  pub flat_map_shift : (g h : ℕ → List X) (a b n : ℕ) → ((k : ℕ) → k < n → g (b + k) ≡ h (a + k)) → flat_map g (range_with_len b n) ≡ flat_map h (range_with_len a n)
  flat_map_shift g h a b zero e = refl
  flat_map_shift g h a b (suc n) e =
      let r : b ≡ b + 0 = omega arith in
      let s : a + 0 ≡ a = omega arith in
      ap (λ xs. xs ++ flat_map g (range_with_len (b + 1) n)) (ap g r ∙ e 0 (omega arith) ∙ ap h s)
      ∙ ap (λ xs. h a ++ xs) (flat_map_shift g h (a + 1) (b + 1) n (λ k l.
      let u : b + 1 + k ≡ b + suc k = omega arith in
      let v : a + suc k ≡ a + 1 + k = omega arith in
      ap g u ∙ e (suc k) (omega arith) ∙ ap h v))

  pub flat_map_from : (g h : ℕ → List X) (a n : ℕ) → ((k : ℕ) → k < n → g k ≡ h (a + k)) → flat_map g (range_with_len 0 n) ≡ flat_map h (range_with_len a n)
  flat_map_from g h a n e = flat_map_shift g h a 0 n (λ k l. let z : 0 + k ≡ k = omega arith in ap g z ∙ e k l)

  pub map_from : (g h : ℕ → X) (a n : ℕ) → ((k : ℕ) → k < n → g k ≡ h (a + k)) → map g (range_with_len 0 n) ≡ map h (range_with_len a n)
  map_from g h a n e =
      sym (flat_map_single g (range_with_len 0 n)) ∙ flat_map_from (λ k. g k ∷ []) (λ k. h k ∷ []) a n (λ k l. ap (λ x. x ∷ []) (e k l)) ∙ flat_map_single h (range_with_len a n)

  pub map_agree : {A : Type 0} (g h : A → X) → ((z : A) → g z ≡ h z) → (zs : List A) → map g zs ≡ map h zs
  map_agree g h e [] = refl
  map_agree g h e (z ∷ zs) = ap (λ x. x ∷ map g zs) (e z) ∙ ap (λ xs. h z ∷ xs) (map_agree g h e zs)
