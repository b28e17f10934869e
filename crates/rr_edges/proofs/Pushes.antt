-- Numbers pushed one list after another.
use Rattle.std.proofs.Common.{◌≡◌, ℕ, ◌+◌, ◌-◌, ◌<◌, ◌≤◌, Bool, true, false, cond, List, [], ◌∷◌, ◌++◌, length, map, take, drop, get_or, refl, sym, subst, ap, ◌∙◌, arith}
use Rattle.std.specs.List.{range_with_len, flat_map}
use Rattle.std.proofs.lemmas.List.{append-nil, append_assoc, length-append, take-append-drop, take_more, map_more}
use Rattle.std.proofs.lemmas.List.Sums.{length-filter, count_by-le-length}
use Rattle.std.proofs.lemmas.List.Folds.{length-flat_map-take}
use Rattle.std.proofs.lemmas.List.Concat.{flat_map-append}
use Rattle.smallvec.specs.SmallVec.{SmallVec, HasRoomFor}
use Rattle.channel_tables.specs.Fabric.{numbers_below}
use Rattle.rr_edges.specs.kept.Pushes.{Pushes}
use Rattle.channel_tables.specs.Pins.{when}
use Rattle.channel_tables.specs.Picks.{picks}
use Rattle.channel_tables.proofs.Picks.{picks-append, picks_more, length-picks}
use Rattle.channel_tables.proofs.Ranges.{length_below, mapped_more, range_more}
use Rattle.channel_tables.proofs.Windows.{range-append, flat_map_next, flat_map_split}

pub pushed_none : (v : SmallVec ℕ) → Pushes v [] v
pushed_none v = record { items = sym (append-nil v.items); capacity = refl }

-- ---- one list and then another
module _ {a b : SmallVec ℕ} {xs : List ℕ} (h : Pushes a xs b) where
  pub pushed_then : {c : SmallVec ℕ} {ys : List ℕ} → Pushes b ys c → Pushes a (xs ++ ys) c
  pushed_then {c} {ys} k = record {
    items = k.items ∙ ap (λ ns. ns ++ ys) h.items ∙ append_assoc a.items xs ys;
    capacity = k.capacity ∙ h.capacity;
  }

  pub room_then : (ys : List ℕ) → HasRoomFor a (length (xs ++ ys)) → HasRoomFor b (length ys)
  room_then ys r = omega (arith, length-append xs ys, ap length h.items, length-append a.items xs, h.capacity)

pub room_first : (a : SmallVec ℕ) (xs ys : List ℕ) → HasRoomFor a (length (xs ++ ys)) → HasRoomFor a (length xs)
room_first a xs ys r = omega (arith, length-append xs ys)

-- ---- a loop over a slice, and one over numbers, as far as they have come
module _ {a b c : SmallVec ℕ} where
  pub pushed_taken :
      (g : ℕ → ℕ) (xs : List ℕ) (i d n : ℕ) → Pushes a (map g (take i xs)) b → i < length xs → n ≡ g (get_or xs i d) → c.items ≡ b.items ++ n ∷ [] → c.capacity ≡ b.capacity
      → Pushes a (map g (take (i + 1) xs)) c
  pushed_taken g xs i d n h l e items capacity = record {
    items = items ∙ ap (λ ns. ns ++ n ∷ []) h.items ∙ append_assoc a.items (map g (take i xs)) (n ∷ [])
        ∙ ap (λ m. a.items ++ (map g (take i xs) ++ m ∷ [])) e ∙ ap (λ ns. a.items ++ ns) (sym (map_more g xs i d l));
    capacity = capacity ∙ h.capacity;
  }

  pub pushed_more : (g : ℕ → List ℕ) (k : ℕ) → Pushes a (flat_map g (numbers_below k)) b → Pushes b (g k) c → Pushes a (flat_map g (numbers_below (k + 1))) c
  pushed_more g k h m =
      let both = pushed_then h m in
      record { items = both.items ∙ ap (λ ns. a.items ++ ns) (sym (flat_map_next g k)); capacity = both.capacity }

module _ {a b : SmallVec ℕ} where
  pub room_more : (g : ℕ → List ℕ) (k n : ℕ) → Pushes a (flat_map g (numbers_below k)) b → HasRoomFor a (length (flat_map g (numbers_below n))) → k < n → HasRoomFor b (length (g k))
  room_more g k n h r l =
      let before = flat_map g (numbers_below k) in
      let rest = flat_map g (range_with_len (k + 1) (n - (k + 1))) in
      omega (
        arith,
        ap length h.items,
        length-append a.items before,
        h.capacity,
        ap length (flat_map_split g k 1 n (omega arith)),
        length-append before ((g k ++ []) ++ rest),
        length-append (g k ++ []) rest,
        ap length (append-nil (g k)),
      )

-- ---- a loop over a list, of which each element gives a list
module _ {X : Type 0} {a b : SmallVec ℕ} (g : X → List ℕ) (xs : List X) (i : ℕ) (d : X) (h : Pushes a (flat_map g (take i xs)) b) (l : i < length xs) where
  pub pushed_each : {c : SmallVec ℕ} → Pushes b (g (get_or xs i d)) c → Pushes a (flat_map g (take (i + 1) xs)) c
  pushed_each {c} m =
      let x = get_or xs i d in
      let next = ap (flat_map g) (take_more xs i d l) ∙ flat_map-append g (take i xs) (x ∷ []) ∙ ap (λ ns. flat_map g (take i xs) ++ ns) (append-nil (g x)) in
      subst (λ ns. Pushes a ns c) (sym next) (pushed_then h m)

  pub room_each : HasRoomFor a (length (flat_map g xs)) → HasRoomFor b (length (g (get_or xs i d)))
  room_each r = omega (arith, ap length h.items, length-append a.items (flat_map g (take i xs)), h.capacity, length-flat_map-take g xs i d l)

-- ---- a loop over numbers from s on
module _ {a b : SmallVec ℕ} (g : ℕ → List ℕ) (s k : ℕ) (h : Pushes a (flat_map g (range_with_len s k)) b) where
  pub pushed_further : {c : SmallVec ℕ} → Pushes b (g (s + k)) c → Pushes a (flat_map g (range_with_len s (k + 1))) c
  pushed_further {c} m =
      let next = ap (flat_map g) (range_more s k) ∙ flat_map-append g (range_with_len s k) ((s + k) ∷ []) ∙ ap (λ ns. flat_map g (range_with_len s k) ++ ns) (append-nil (g (s + k))) in
      subst (λ ns. Pushes a ns c) (sym next) (pushed_then h m)

  pub room_further : (n : ℕ) → HasRoomFor a (length (flat_map g (range_with_len s n))) → k < n → HasRoomFor b (length (g (s + k)))
  room_further n r l =
      let before = flat_map g (range_with_len s k) in
      let here : ℕ → List ℕ = λ i. flat_map g (range_with_len (s + i) (n - i)) in
      let whole : n ≡ k + (1 + (n - (k + 1))) = omega arith in
      let rest = flat_map g (range_with_len (s + k + 1) (n - (k + 1))) in
      let split = ap (λ i. flat_map g (range_with_len s i)) whole ∙ ap (flat_map g) (range-append s k (1 + (n - (k + 1)))) ∙ flat_map-append g (range_with_len s k) (range_with_len (s + k) (1 + (n - (k + 1))))
      ∙ ap (λ ns. before ++ flat_map g ns) (range-append (s + k) 1 (n - (k + 1))) in
      omega (arith, ap length h.items, length-append a.items before, h.capacity, ap length split, length-append before (g (s + k) ++ rest), length-append (g (s + k)) rest)

-- ---- one number at a time, and two
module _ {a b c : SmallVec ℕ} where
  pub pushed_mapped :
      (g : ℕ → ℕ) (k n : ℕ) → Pushes a (map g (numbers_below k)) b → n ≡ g k → c.items ≡ b.items ++ n ∷ [] → c.capacity ≡ b.capacity
      → Pushes a (map g (numbers_below (k + 1))) c
  pushed_mapped g k n h e items capacity = record {
    items = items ∙ ap (λ ns. ns ++ n ∷ []) h.items ∙ ap (λ m. (a.items ++ map g (numbers_below k)) ++ m ∷ []) e ∙ mapped_more g a.items k;
    capacity = capacity ∙ h.capacity;
  }

  pub pushed_both : {d : SmallVec ℕ} (g : ℕ → List ℕ) (k : ℕ) (xs ys : List ℕ) → Pushes a (flat_map g (numbers_below k)) b → Pushes b xs c → Pushes c ys d → xs ++ ys ≡ g k
      → Pushes a (flat_map g (numbers_below (k + 1))) d
  pushed_both {d} g k xs ys h m n e =
      pushed_more g k h (subst (λ ns. Pushes b ns d) e (pushed_then m n))

  pub pushed_two :
      {d : SmallVec ℕ} (g : ℕ → List ℕ) (k m n : ℕ) → Pushes a (flat_map g (numbers_below k)) b
      → c.items ≡ b.items ++ m ∷ [] → c.capacity ≡ b.capacity → d.items ≡ c.items ++ n ∷ [] → d.capacity ≡ c.capacity → m ∷ n ∷ [] ≡ g k
      → Pushes a (flat_map g (numbers_below (k + 1))) d
  pushed_two g k m n h items capacity more kept e =
      pushed_both g k (m ∷ []) (n ∷ []) h (record { items = items; capacity = capacity }) (record { items = more; capacity = kept }) e

pub room_mapped : {a b : SmallVec ℕ} (g : ℕ → ℕ) (k n : ℕ) → Pushes a (map g (numbers_below k)) b → HasRoomFor a (length (map g (numbers_below n))) → k < n → HasRoomFor b 1
room_mapped {a} g k n h r l =
    omega (arith, ap length h.items, length-append a.items (map g (numbers_below k)), length_below g k, length_below g n, h.capacity)

-- ---- a loop over a list, of which what passes a test is pushed
module _ {X : Type 0} (p : X → Bool) (xs : List X) (s i : ℕ) (d : X) {a b : SmallVec ℕ} (h : Pushes a (picks p s (take i xs)) b) (l : i < length xs) (t : Bool) (e : t ≡ p (get_or xs i d)) where
  pub pushed_next : {c : SmallVec ℕ} (n : ℕ) → n ≡ s + i → Pushes b (when t n) c → Pushes a (picks p s (take (i + 1) xs)) c
  pushed_next {c} n m k =
      let here : when t n ≡ when (p (get_or xs i d)) (s + i) = rw (e, m) refl in
      subst (λ ns. Pushes a ns c) (sym (picks_more p s xs i d l)) (pushed_then h (subst (λ ns. Pushes b ns c) here k))

  pub room_next : (n : ℕ) → HasRoomFor a (length (picks p s xs)) → HasRoomFor b (length (when t n))
  room_next n r =
      let rest = picks p (s + length (take (i + 1) xs)) (drop (i + 1) xs) in
      omega (
        arith,
        ap length h.items,
        length-append a.items (picks p s (take i xs)),
        h.capacity,
        ap (λ ys. length (picks p s ys)) (take-append-drop (i + 1) xs),
        ap length (picks-append p s (take (i + 1) xs) (drop (i + 1) xs)),
        length-append (picks p s (take (i + 1) xs)) rest,
        ap length (picks_more p s xs i d l),
        length-append (picks p s (take i xs)) (when (p (get_or xs i d)) (s + i)),
        ap (λ v. length (when v n)) e,
        same (p (get_or xs i d)),
      )
    where
      same : (v : Bool) → length (when v n) ≡ length (when v (s + i))
      same true = refl
      same false = refl

-- ---- how many pass
module _ {X : Type 0} (p : X → Bool) where
  pub count_picked : (xs : List X) (i : ℕ) (d : X) → i < length xs → p (get_or xs i d) ≡ true → length (picks p 0 (take (i + 1) xs)) ≡ length (picks p 0 (take i xs)) + 1
  count_picked xs i d l e =
      omega (arith, ap length (picks_more p 0 xs i d l ∙ ap (λ t. picks p 0 (take i xs) ++ cond t ((0 + i) ∷ []) []) e), length-append (picks p 0 (take i xs)) ((0 + i) ∷ []))

  pub count_passed : (xs : List X) (i : ℕ) (d : X) → i < length xs → p (get_or xs i d) ≡ false → length (picks p 0 (take (i + 1) xs)) ≡ length (picks p 0 (take i xs))
  count_passed xs i d l e =
      omega (arith, ap length (picks_more p 0 xs i d l ∙ ap (λ t. picks p 0 (take i xs) ++ cond t ((0 + i) ∷ []) []) e), length-append (picks p 0 (take i xs)) [])

  pub count_shifted : (s : ℕ) (xs : List X) → length (picks p s xs) ≡ length (picks p 0 xs)
  count_shifted s xs = omega (arith, length-picks p s xs, length-picks p 0 xs)

  pub few_picked : (s : ℕ) (xs : List X) → length (picks p s xs) ≤ length xs
  few_picked s xs = omega (arith, length-picks p s xs, length-filter p xs, count_by-le-length p xs)
