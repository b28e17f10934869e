-- The numbers from one on: the first that passes a test, one number more, and tests over them.
use Rattle.std.proofs.Common.{◌≡◌, ℕ, ◌+◌, ◌<◌, ◌≤◌, zero, suc, Bool, true, false, cond, List, [], ◌∷◌, ◌++◌, length, map, get_or, refl, sym, ap, ◌∙◌, arith, zero-add}
use Rattle.std.specs.List.{range_with_len, position_or_len, list_any, filter, flat_map, sum_by}
use Rattle.std.proofs.lemmas.List.{append_assoc, append-nil, length-map, map-append, flat_map_more, length_push}
use Rattle.std.proofs.lemmas.List.Elements.{filter-append}
use Rattle.std.specs.Prelude.{◌||◌}
use Rattle.std.proofs.lemmas.Bool.{or_from, or_left, or_right}
use Rattle.std.proofs.lemmas.List.Sums.{position_or_len_is, sum_by_push}
use Rattle.std.proofs.lemmas.List.FromFn.{length-range_with_len, get_or-range_with_len, get_or-map-range_with_len}
pub use Rattle.arch_file.proofs.Lists.{range_more, below_next}

pub first_in_range : (p : ℕ → Bool) (a n i : ℕ) → i ≤ n → ((k : ℕ) → k < i → p (a + k) ≡ false) → (i < n → p (a + i) ≡ true) → position_or_len p (range_with_len a n) ≡ i
first_in_range p a n i le below here =
    position_or_len_is p (range_with_len a n) i 0 (omega (arith, length-range_with_len a n))
    (λ k l. let lt : k < n = omega arith in rw (get_or-range_with_len a n k 0 lt) (below k l))
    (λ l. let lt : i < n = omega (arith, length-range_with_len a n) in rw (get_or-range_with_len a n i 0 lt) (here lt))

pub first_below : (p : ℕ → Bool) (n i : ℕ) → i ≤ n → ((k : ℕ) → k < i → p k ≡ false) → (i < n → p i ≡ true) → position_or_len p (range_with_len 0 n) ≡ i
first_below p n i le below here =
    first_in_range p 0 n i le (λ k l. ap p (zero-add k) ∙ below k l) (λ l. ap p (zero-add i) ∙ here l)

pub none_in_range : (p : ℕ → Bool) (a n : ℕ) → ((k : ℕ) → k < n → p (a + k) ≡ false) → list_any p (range_with_len a n) ≡ false
none_in_range p a zero h = refl
none_in_range p a (suc n) h =
    or_from (p a) (list_any p (range_with_len (a + 1) n)) (let e : a + 0 ≡ a = omega arith in ap p (sym e) ∙ h 0 (omega arith))
    (none_in_range p (a + 1) n (λ k l. let e : a + 1 + k ≡ a + suc k = omega arith in ap p e ∙ h (suc k) (omega arith)))

pub some_in_range : (p : ℕ → Bool) (a n i : ℕ) → i < n → p (a + i) ≡ true → list_any p (range_with_len a n) ≡ true
some_in_range p a zero i l h = absurd (omega arith)
some_in_range p a (suc n) zero l h = or_left (p a) (list_any p (range_with_len (a + 1) n)) (let e : a ≡ a + 0 = omega arith in ap p e ∙ h)
some_in_range p a (suc n) (suc i) l h =
    or_right (p a) (list_any p (range_with_len (a + 1) n))
    (some_in_range p (a + 1) n i (omega arith) (let e : a + 1 + i ≡ a + suc i = omega arith in ap p e ∙ h))

pub none_below : (p : ℕ → Bool) (n : ℕ) → ((k : ℕ) → k < n → p k ≡ false) → list_any p (range_with_len 0 n) ≡ false
none_below p n h = none_in_range p 0 n (λ k l. ap p (zero-add k) ∙ h k l)

pub some_below : (p : ℕ → Bool) (n i : ℕ) → i < n → p i ≡ true → list_any p (range_with_len 0 n) ≡ true
some_below p n i l h = some_in_range p 0 n i l (ap p (zero-add i) ∙ h)

pub list_any-map : {A B : Type 0} (p : B → Bool) (g : A → B) (xs : List A) → list_any p (map g xs) ≡ list_any (λ x. p (g x)) xs
list_any-map p g [] = refl
list_any-map p g (x ∷ xs) = ap (λ b. p (g x) || b) (list_any-map p g xs)

pub none_mapped : (p : ℕ → Bool) (g : ℕ → ℕ) (n : ℕ) → ((k : ℕ) → k < n → p (g k) ≡ false) → list_any p (map g (range_with_len 0 n)) ≡ false
none_mapped p g n h = list_any-map p g (range_with_len 0 n) ∙ none_below (λ k. p (g k)) n h

pub some_mapped : (p : ℕ → Bool) (g : ℕ → ℕ) (n i : ℕ) → i < n → p (g i) ≡ true → list_any p (map g (range_with_len 0 n)) ≡ true
some_mapped p g n i l h = list_any-map p g (range_with_len 0 n) ∙ some_below (λ k. p (g k)) n i l h

pub length_below : {X : Type 0} (g : ℕ → X) (n : ℕ) → length (map g (range_with_len 0 n)) ≡ n
length_below g n = length-map (range_with_len 0 n) g ∙ length-range_with_len 0 n

pub get_below : {X : Type 0} (g : ℕ → X) (n i : ℕ) (d : X) → i < n → get_or (map g (range_with_len 0 n)) i d ≡ g i
get_below g n i d l = get_or-map-range_with_len g 0 n i i d l (zero-add i)

pub filter_next : (p : ℕ → Bool) (i : ℕ) → filter p (range_with_len 0 (i + 1)) ≡ filter p (range_with_len 0 i) ++ cond (p i) (i ∷ []) []
filter_next p i = ap (filter p) (below_next i) ∙ filter-append p (range_with_len 0 i) (i ∷ [])

module _ {X : Type 0} where
  pub mapped_more : (f : ℕ → X) (xs : List X) (i : ℕ) → (xs ++ map f (range_with_len 0 i)) ++ (f i ∷ []) ≡ xs ++ map f (range_with_len 0 (i + 1))
  mapped_more f xs i =
      append_assoc xs (map f (range_with_len 0 i)) (f i ∷ []) ∙ ap (λ ys. xs ++ ys) (sym (ap (map f) (below_next i) ∙ map-append f (range_with_len 0 i) (i ∷ [])))

  pub mapped_next : (f : ℕ → X) (i : ℕ) → map f (range_with_len 0 i) ++ (f i ∷ []) ≡ map f (range_with_len 0 (i + 1))
  mapped_next f i = mapped_more f [] i

  pub kept_more : (p : ℕ → Bool) (f : ℕ → X) (xs : List X) (i : ℕ) → p i ≡ true → (xs ++ map f (filter p (range_with_len 0 i))) ++ (f i ∷ []) ≡ xs ++ map f (filter p (range_with_len 0 (i + 1)))
  kept_more p f xs i e =
      append_assoc xs (map f (filter p (range_with_len 0 i))) (f i ∷ [])
      ∙ ap (λ ys. xs ++ ys) (sym (ap (map f) (filter_next p i ∙ ap (λ b. filter p (range_with_len 0 i) ++ cond b (i ∷ []) []) e) ∙ map-append f (filter p (range_with_len 0 i)) (i ∷ [])))

  pub skipped_more : (p : ℕ → Bool) (f : ℕ → X) (xs : List X) (i : ℕ) → p i ≡ false → xs ++ map f (filter p (range_with_len 0 i)) ≡ xs ++ map f (filter p (range_with_len 0 (i + 1)))
  skipped_more p f xs i e =
      ap (λ ys. xs ++ map f ys) (sym (filter_next p i ∙ ap (λ b. filter p (range_with_len 0 i) ++ cond b (i ∷ []) []) e ∙ append-nil (filter p (range_with_len 0 i))))

  pub joined_more : (g : ℕ → List X) (xs : List X) (i : ℕ) → (xs ++ flat_map g (range_with_len 0 i)) ++ g i ≡ xs ++ flat_map g (range_with_len 0 (i + 1))
  joined_more g xs i = flat_map_more g xs (range_with_len 0 i) i ∙ ap (λ ys. xs ++ flat_map g ys) (sym (below_next i))

pub kept_next : (p : ℕ → Bool) (i : ℕ) → p i ≡ true → filter p (range_with_len 0 i) ++ (i ∷ []) ≡ filter p (range_with_len 0 (i + 1))
kept_next p i e = sym (filter_next p i ∙ ap (λ b. filter p (range_with_len 0 i) ++ cond b (i ∷ []) []) e)

pub skipped_next : (p : ℕ → Bool) (i : ℕ) → p i ≡ false → filter p (range_with_len 0 i) ≡ filter p (range_with_len 0 (i + 1))
skipped_next p i e =
    sym (filter_next p i ∙ ap (λ b. filter p (range_with_len 0 i) ++ cond b (i ∷ []) []) e ∙ append-nil (filter p (range_with_len 0 i)))

pub count_kept : (p : ℕ → Bool) (i : ℕ) → p i ≡ true → length (filter p (range_with_len 0 (i + 1))) ≡ length (filter p (range_with_len 0 i)) + 1
count_kept p i e = ap length (sym (kept_next p i e)) ∙ length_push (filter p (range_with_len 0 i)) i

pub count_skipped : (p : ℕ → Bool) (i : ℕ) → p i ≡ false → length (filter p (range_with_len 0 (i + 1))) ≡ length (filter p (range_with_len 0 i))
count_skipped p i e = ap length (sym (skipped_next p i e))

pub sum_next : (g : ℕ → ℕ) (i : ℕ) → sum_by g (range_with_len 0 (i + 1)) ≡ sum_by g (range_with_len 0 i) + g i
sum_next g i = ap (sum_by g) (below_next i) ∙ sum_by_push g (range_with_len 0 i) i
