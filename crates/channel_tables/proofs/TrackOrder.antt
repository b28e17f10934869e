-- The tracks of a channel in the order of where their wires through a place begin.
use Rattle.std.proofs.Common.{◌≡◌, ℕ, ◌+◌, ◌-◌, ◌*◌, ◌<◌, ◌≤◌, zero, suc, Bool, true, false, cond, List, [], ◌∷◌, ◌++◌, length, take, drop, refl, sym, ap, ◌∙◌, arith, All}
use Rattle.std.specs.Prelude.{◌==◌}
use Rattle.std.specs.List.{range_with_len, filter, flat_map, prefix_len}
use Rattle.std.proofs.lemmas.Bool.{eq-eqb, ne_eqb, eqb-true}
use Rattle.std.proofs.Math.Seq.{take-append_seam, drop-append_seam}
use Rattle.std.proofs.Math.Nat.{mul-le-mul_right}
use Rattle.std.proofs.lemmas.List.{append_assoc, append-nil}
use Rattle.std.proofs.lemmas.List.Concat.{flat_map-append}
use Rattle.std.proofs.lemmas.List.Elements.{All-append, All-filter, All-get_or, All-from_get_or, All-head, All-tail, All-nil, filter_passes}
use Rattle.std.proofs.lemmas.List.FromFn.{length-range_with_len, get_or-range_with_len}
use Rattle.channel_tables.specs.Fabric.{Fabric, numbers_below}
use Rattle.channel_tables.specs.Wires.{tracks_in}
use Rattle.channel_tables.specs.Channels.{first_of, tracks_from, tracks_since, tracks_through}
use Rattle.channel_tables.proofs.Ranges.{range_more, filter_next, kept_next, skipped_next}
use Rattle.channel_tables.proofs.Windows.{flat_map_from, flat_map_agree, flat_map_empty, flat_map_one, flat_map_split}
use Rattle.channel_tables.proofs.Lengths.{length_next, length_after_first, length_both}
use Rattle.channel_tables.proofs.TrackWires.{first_of-is}

-- ---- the table, built place by place
pub listed_more : (p : ℕ → Bool) (xs : List ℕ) (i : ℕ) → p i ≡ true → (xs ++ filter p (range_with_len 0 i)) ++ (i ∷ []) ≡ xs ++ filter p (range_with_len 0 (i + 1))
listed_more p xs i e = append_assoc xs (filter p (range_with_len 0 i)) (i ∷ []) ∙ ap (λ ys. xs ++ ys) (kept_next p i e)

pub skipped_more : (p : ℕ → Bool) (xs : List ℕ) (i : ℕ) → p i ≡ false → xs ++ filter p (range_with_len 0 i) ≡ xs ++ filter p (range_with_len 0 (i + 1))
skipped_more p xs i e = ap (λ ys. xs ++ ys) (skipped_next p i e)

pub joined_further : {X : Type 0} (g : ℕ → List X) (xs : List X) (s i : ℕ) → (xs ++ flat_map g (range_with_len s i)) ++ g (s + i) ≡ xs ++ flat_map g (range_with_len s (i + 1))
joined_further g xs s i =
    append_assoc xs (flat_map g (range_with_len s i)) (g (s + i))
    ∙ ap (λ ys. xs ++ ys) (sym (ap (flat_map g) (range_more s i) ∙ flat_map-append g (range_with_len s i) ((s + i) ∷ []) ∙ ap (λ ys. flat_map g (range_with_len s i) ++ ys) (append-nil (g (s + i)))))

-- ---- each track is there once
module _ {X : Type 0} where
  one_of : (xs : List X) (c n : ℕ) → 1 ≤ c → c ≤ n → flat_map (λ k. cond (c == k) xs []) (range_with_len 1 n) ≡ xs
  one_of xs c n l m =
      let at : 1 + (c - 1) ≡ c = omega arith in
      let piece : ℕ → List X = λ k. cond (c == k) xs [] in
      sym (flat_map_from (λ k. piece (1 + k)) piece 1 n (λ k _. refl))
      ∙ flat_map_one (λ k. piece (1 + k)) (c - 1) n (omega arith) (λ k _ other. ap (λ a. cond a xs []) (ne_eqb c (1 + k) (λ e. other (omega arith))))
      ∙ ap piece at ∙ ap (λ a. cond a xs []) (eq-eqb c c refl)

  joined_if : (h : ℕ → List X) (b : Bool) (m : ℕ) → flat_map h (cond b (m ∷ []) []) ≡ cond b (h m) []
  joined_if h true m = append-nil (h m)
  joined_if h false m = refl

  pub singles : (xs : List X) → flat_map (λ x. x ∷ []) xs ≡ xs
  singles [] = refl
  singles (x ∷ xs) = ap (λ ys. x ∷ ys) (singles xs)

module _ {X : Type 0} (f : Fabric) (n at : ℕ) (h : ℕ → List X) (from : 1 ≤ at) where
  abbrev begun : (m first : ℕ) → List ℕ
  begun m first = filter (λ t. first_of f n t at == first) (numbers_below m)

  begun_next : (m first : ℕ) → flat_map h (begun (m + 1) first) ≡ flat_map h (begun m first) ++ cond (first_of f n m at == first) (h m) []
  begun_next m first =
      ap (flat_map h) (filter_next (λ t. first_of f n t at == first) m)
      ∙ flat_map-append h (begun m first) (cond (first_of f n m at == first) (m ∷ []) [])
      ∙ ap (λ ys. flat_map h (begun m first) ++ ys) (joined_if h (first_of f n m at == first) m)

  pub each_once : (m : ℕ) → length (flat_map (λ first. flat_map h (begun m first)) (range_with_len 1 at)) ≡ length (flat_map h (numbers_below m))
  each_once zero = ap length (flat_map_empty {X = X} (λ first. []) 1 at (λ k _ _. refl))
  each_once (suc m) =
      let e : suc m ≡ m + 1 = omega arith in
      let d = first_of-is f n m at from in
      ap (λ k. length (flat_map (λ first. flat_map h (begun k first)) (range_with_len 1 at))) e
      ∙ ap length (flat_map_agree _ (λ first. flat_map h (begun m first) ++ cond (first_of f n m at == first) (h m) []) 1 at (λ first _ _. begun_next m first))
      ∙ omega (
        arith,
        length_both (λ first. flat_map h (begun m first)) (λ first. cond (first_of f n m at == first) (h m) []) (range_with_len 1 at),
        each_once m,
        ap length (one_of (h m) (first_of f n m at) at d.from d.upto),
        length_next h m,
      )
      ∙ ap (λ k. length (flat_map h (numbers_below k))) (sym e)

module _ (f : Fabric) (n p : ℕ) where
  pub through_all : tracks_through f n p ≡ flat_map (tracks_from f n p) (range_with_len 1 p)
  unfolding tracks_since
  through_all = let e : p + 1 - 1 ≡ p = omega arith in ap (λ k. flat_map (tracks_from f n p) (range_with_len 1 k)) e

  pub through_none : tracks_through f n 0 ≡ []
  unfolding tracks_since
  through_none = refl

  pub through-length : 1 ≤ p → length (tracks_through f n p) ≡ tracks_in f.mode f.width
  through-length l =
      ap length (through_all ∙ flat_map_agree _ (λ first. flat_map (λ t. t ∷ []) (tracks_from f n p first)) 1 p (λ first _ _. sym (singles (tracks_from f n p first))))
      ∙ each_once f n p (λ t. t ∷ []) l (tracks_in f.mode f.width)
      ∙ ap length (singles (numbers_below (tracks_in f.mode f.width))) ∙ length-range_with_len 0 (tracks_in f.mode f.width)

-- ---- the part of a place in the table
middle_part : (xs ys zs : List ℕ) (i j : ℕ) → i ≡ length xs → j ≡ length xs + length ys → take (j - i) (drop i (xs ++ (ys ++ zs))) ≡ ys
middle_part xs ys zs i j e h =
    let count : j - i ≡ length ys = omega (arith, e, h) in
    ap (λ k. take k (drop i (xs ++ (ys ++ zs)))) count ∙ ap (λ k. take (length ys) (drop k (xs ++ (ys ++ zs)))) e
    ∙ ap (take (length ys)) (drop-append_seam xs (ys ++ zs)) ∙ take-append_seam ys zs

module _ (f : Fabric) (n w : ℕ) (width : w ≡ tracks_in f.mode f.width) where
  abbrev table : List ℕ
  table = flat_map (tracks_through f n) (numbers_below (n + 1))

  upto-length : (p : ℕ) → length (flat_map (tracks_through f n) (numbers_below (p + 1))) ≡ p * w
  upto-length p =
      omega (arith, length_after_first (tracks_through f n) w p p (λ i l _. through-length f n i l ∙ sym width) (omega arith), ap length (through_none f n 0))

  before-length : (p : ℕ) → length (flat_map (tracks_through f n) (numbers_below p)) ≡ (p - 1) * w
  before-length zero = omega arith
  before-length (suc p) =
      let e : suc p ≡ p + 1 = omega arith in
      let d : p ≡ suc p - 1 = omega arith in
      ap (λ k. length (flat_map (tracks_through f n) (numbers_below k))) e ∙ upto-length p ∙ ap (λ k. k * w) d

  here-length : (p : ℕ) → p * w ≡ (p - 1) * w + length (tracks_through f n p)
  here-length p = omega (arith, upto-length p, before-length p, length_next (tracks_through f n) p)

  pub part_within : (p : ℕ) (xs : List ℕ) → p ≤ n → xs ≡ table → p * w ≤ length xs
  part_within p xs l e = omega (arith, ap length e, upto-length n, mul-le-mul_right w l)

  pub part_of_place : (p : ℕ) (xs : List ℕ) → p ≤ n → xs ≡ table → take (p * w - (p - 1) * w) (drop ((p - 1) * w) xs) ≡ tracks_through f n p
  part_of_place p xs l e =
      let rest = flat_map (tracks_through f n) (range_with_len (p + 1) (n + 1 - (p + 1))) in
      ap (λ ys. take (p * w - (p - 1) * w) (drop ((p - 1) * w) ys))
      (e ∙ flat_map_split (tracks_through f n) p 1 (n + 1) (omega arith)
      ∙ ap (λ ys. flat_map (tracks_through f n) (numbers_below p) ++ (ys ++ rest)) (append-nil (tracks_through f n p)))
      ∙ middle_part (flat_map (tracks_through f n) (numbers_below p)) (tracks_through f n p) rest _ _ (sym (before-length p)) (omega (arith, here-length p, before-length p))

-- ---- those that begin at one place, and those behind them
module _ {X : Type 0} where
  all_joined : (P : X → Type 0) (g : ℕ → List X) (a n : ℕ) → ((k : ℕ) → a ≤ k → All P (g k)) → All P (flat_map g (range_with_len a n))
  all_joined P g a zero h = All-nil P
  all_joined P g a (suc n) h =
      All-append P (g a) (flat_map g (range_with_len (a + 1) n)) (h a (omega arith)) (all_joined P g (a + 1) n (λ k l. h k (omega arith)))

  prefix_passes : (p : X → Bool) (xs ys : List X) → All (λ x. p x ≡ true) xs → All (λ y. p y ≡ false) ys → prefix_len p (xs ++ ys) ≡ length xs
  prefix_passes p [] [] a b = refl
  prefix_passes p [] (y ∷ ys) a b = rw (All-head (λ y. p y ≡ false) y ys b) refl
  prefix_passes p (x ∷ xs) ys a b =
      rw (All-head (λ x. p x ≡ true) x xs a) (omega (arith, prefix_passes p xs ys (All-tail (λ x. p x ≡ true) x xs a) b))

all_below : (n : ℕ) → All (λ t. t < n) (numbers_below n)
all_below n = All-from_get_or (λ t. t < n) (numbers_below n) 0 (λ i l. omega (arith, length-range_with_len 0 n, get_or-range_with_len 0 n i 0 (omega (arith, length-range_with_len 0 n))))

module _ (f : Fabric) (n p : ℕ) where
  pub from_small : (first : ℕ) → All (λ t. t < tracks_in f.mode f.width) (tracks_from f n p first)
  from_small first = All-filter (λ t. first_of f n t p == first) (λ t. t < tracks_in f.mode f.width) (numbers_below (tracks_in f.mode f.width)) (all_below (tracks_in f.mode f.width))

  pub since_small : (first : ℕ) → All (λ t. t < tracks_in f.mode f.width) (tracks_since f n p first)
  unfolding tracks_since
  since_small first = all_joined (λ t. t < tracks_in f.mode f.width) (tracks_from f n p) first (p + 1 - first) (λ k _. from_small k)

  since_next : (first : ℕ) → first ≤ p → tracks_since f n p first ≡ tracks_from f n p first ++ tracks_since f n p (first + 1)
  unfolding tracks_since
  since_next first l =
      let e : p + 1 - first ≡ suc (p + 1 - (first + 1)) = omega arith in
      ap (λ k. flat_map (tracks_from f n p) (range_with_len first k)) e

  begins_after : (first k : ℕ) → first + 1 ≤ k → All (λ t. (first_of f n t p == first) ≡ false) (tracks_from f n p k)
  begins_after first k l =
      let here = filter_passes (λ t. first_of f n t p == k) (numbers_below (tracks_in f.mode f.width)) in
      All-from_get_or (λ t. (first_of f n t p == first) ≡ false) (tracks_from f n p k) 0 (λ i m.
      let at = eqb-true _ k (All-get_or (λ t. (first_of f n t p == k) ≡ true) (tracks_from f n p k) i 0 m here) in
      ne_eqb _ first (λ e. omega (arith, at, e)))

  since_after : (first : ℕ) → All (λ t. (first_of f n t p == first) ≡ false) (tracks_since f n p (first + 1))
  unfolding tracks_since
  since_after first =
      all_joined (λ t. (first_of f n t p == first) ≡ false) (tracks_from f n p) (first + 1) (p + 1 - (first + 1)) (λ k l. begins_after first k l)

  module _ (first : ℕ) (l : first ≤ p) where
    abbrev begun_here : ℕ
    begun_here = prefix_len (λ t. first_of f n t p == first) (tracks_since f n p first)

    begun-length : begun_here ≡ length (tracks_from f n p first)
    begun-length =
        ap (prefix_len (λ t. first_of f n t p == first)) (since_next first l)
        ∙ prefix_passes (λ t. first_of f n t p == first) (tracks_from f n p first) (tracks_since f n p (first + 1))
        (filter_passes (λ t. first_of f n t p == first) (numbers_below (tracks_in f.mode f.width))) (since_after first)

    pub begun_front : take begun_here (tracks_since f n p first) ≡ tracks_from f n p first
    begun_front =
        ap (λ k. take k (tracks_since f n p first)) begun-length ∙ ap (take (length (tracks_from f n p first))) (since_next first l)
        ∙ take-append_seam (tracks_from f n p first) (tracks_since f n p (first + 1))

    pub begun_rest : drop begun_here (tracks_since f n p first) ≡ tracks_since f n p (first + 1)
    begun_rest =
        ap (λ k. drop k (tracks_since f n p first)) begun-length ∙ ap (drop (length (tracks_from f n p first))) (since_next first l)
        ∙ drop-append_seam (tracks_from f n p first) (tracks_since f n p (first + 1))
