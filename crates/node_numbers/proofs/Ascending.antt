-- Lists of numbers that ascend: two of them with the same members are one.
use Rattle.std.proofs.Common.{◌≡◌, ℕ, ◌+◌, ◌<◌, Bool, true, false, cond, eqb, List, [], ◌∷◌, length, All, refl, sym, ◌∙◌, arith}
use Rattle.std.specs.Prelude.{Contains}
use Rattle.std.specs.BTreeSet.{BTreeSet}
use Rattle.std.specs.List.{filter, dedup, list_any}
use Rattle.std.specs.Cmp.{nat_eq_equiv, both_ways}
use Rattle.std.specs.List.Retain.{DiffersFromLast, IsFiltered}
use Rattle.std.specs.List.Sorted.{IsStrictlyIncreasing, IsSorted, IsPermutation}
use Rattle.std.specs.Ordering.{nat_cmp}
use Rattle.std.proofs.lemmas.Cmp.{nat_cmp_total}
use Rattle.std.proofs.lemmas.List.Elements.{All-nil, All-cons, All-head, All-tail, All-contains}
use Rattle.std.proofs.lemmas.List.Filters.{dedup_is}
use Rattle.std.proofs.lemmas.List.FromFn.{length-range_with_len, get_or-range_with_len}
use Rattle.std.proofs.lemmas.List.Kept.{IsStrictlyIncreasing-filter, Contains-dedup_nat, Contains-from_dedup}
use Rattle.std.proofs.lemmas.List.Sorted.{Contains-permutation, IsPermutation-sym}
use Rattle.std.proofs.lemmas.Map.Keys.{IsStrictlyIncreasing-dedup, sorted_from_strictly_increasing}
use Rattle.std.proofs.lemmas.Map.Lookups.{btree_set_from_contains, exact_unsigned}
use Rattle.std.proofs.lemmas.Map.Views.{btree_set_contains_iff, exact_unsigned_eq, Contains-from_any, list_any-from_Contains}
use Rattle.std.proofs.lemmas.Option.{slice_get_within, get_or_from_slice_get}
use Rattle.channel_tables.specs.Fabric.{numbers_below}
use Rattle.node_numbers.proofs.NumbersAtPlaces.{kept_at}

pub same_ascending : (xs ys : List ℕ) → IsStrictlyIncreasing xs → IsStrictlyIncreasing ys → ((x : ℕ) → Contains xs x → Contains ys x) → ((x : ℕ) → Contains ys x → Contains xs x) → xs ≡ ys
same_ascending xs ys a b f g =
    let s : BTreeSet ℕ = record { keys = xs } in
    let t : BTreeSet ℕ = record { keys = ys } in
    let in_s = btree_set_contains_iff nat_cmp_total exact_unsigned s in
    let in_t = btree_set_contains_iff nat_cmp_total exact_unsigned t in
    btree_set_from_contains nat_cmp_total s t (sorted_from_strictly_increasing xs a) (sorted_from_strictly_increasing ys b)
    (λ q. both_ways _ _ (λ e. (in_t q).1 (f q ((in_s q).0 e))) (λ e. (in_s q).1 (g q ((in_t q).0 e))))
    exact_unsigned

pub below_ascend : (n : ℕ) → IsStrictlyIncreasing (numbers_below n)
below_ascend n = λ k l.
    let within : k + 1 < n = omega (arith, l, length-range_with_len 0 n) in
    omega (arith, get_or-range_with_len 0 n k 0 (omega arith), get_or-range_with_len 0 n (k + 1) 0 within)

-- ---- what passes a test
module _ {X : Type 0} (p : X → Bool) (P : X → Type 0) where
  kept_step : (b : Bool) (x : X) (xs : List X) → p x ≡ b → (p x ≡ true → P x) → All P (filter p xs) → All P (cond b (x ∷ filter p xs) (filter p xs))
  kept_step true x xs e h rest = All-cons P x (filter p xs) (h e) rest
  kept_step false x xs e h rest = rest

  pub all_kept : (xs : List X) → All (λ x. p x ≡ true → P x) xs → All P (filter p xs)
  all_kept [] h = All-nil P
  all_kept (x ∷ xs) h = kept_step (p x) x xs refl (All-head (λ y. p y ≡ true → P y) x xs h) (all_kept xs (All-tail (λ y. p y ≡ true → P y) x xs h))

pub kept_below : (p : ℕ → Bool) (m i : ℕ) → i < m → p i ≡ true → Contains (filter p (numbers_below m)) i
kept_below p m i l e =
    let at = length (filter p (numbers_below i)) in
    let here = kept_at p m i e l in
    (at, slice_get_within (filter p (numbers_below m)) at i here, get_or_from_slice_get (filter p (numbers_below m)) at i i here)

pub passes_there : (p : ℕ → Bool) (xs : List ℕ) (i : ℕ) → Contains (filter p xs) i → p i ≡ true
passes_there p xs i h = All-contains (λ x. p x ≡ true) (filter p xs) i (all_kept p (λ x. p x ≡ true) xs (λ k d l e. e)) h

-- numbers in order, each once, are those below a bound that are among them
pub in_order :
    (p : ℕ → Bool) (m : ℕ) (xs ys zs : List ℕ) → All (λ x. x < m) xs → ((i : ℕ) → p i ≡ list_any (eqb i) xs)
    → IsPermutation xs ys → IsSorted nat_cmp ys → IsFiltered (DiffersFromLast eqb) [] ys zs → zs ≡ filter p (numbers_below m)
in_order p m xs ys zs below tells moved sorted kept =
    let is = dedup_is eqb ys zs kept in
    let back = IsPermutation-sym xs ys moved in
    is ∙ same_ascending (dedup eqb ys) (filter p (numbers_below m)) (IsStrictlyIncreasing-dedup ys sorted) (IsStrictlyIncreasing-filter p (numbers_below m) (below_ascend m))
    (λ i h.
    let found = Contains-permutation ys xs i back (Contains-from_dedup eqb ys i h) in
    kept_below p m i (All-contains (λ x. x < m) xs i below found) (tells i ∙ list_any-from_Contains nat_eq_equiv i xs found))
    (λ i h. Contains-dedup_nat ys i (Contains-permutation xs ys i moved (Contains-from_any exact_unsigned_eq i xs (sym (tells i) ∙ passes_there p (numbers_below m) i h))))
