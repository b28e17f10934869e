-- How long a list of pieces is, where the pieces are of known lengths.
use Rattle.std.proofs.Common.{◌≡◌, ℕ, ◌+◌, ◌*◌, ◌<◌, ◌≤◌, zero, suc, List, [], ◌∷◌, ◌++◌, length, ap, ◌∙◌, arith, length-append}
use Rattle.std.specs.List.{range_with_len, flat_map}
use Rattle.std.proofs.lemmas.Grind.{flat_map-append}
use Rattle.std.proofs.lemmas.List.{append-nil}
use Rattle.channel_tables.proofs.Ranges.{below_next}

module _ {X : Type 0} (g : ℕ → List X) where
  -- one piece more
  pub length_next : (n : ℕ) → length (flat_map g (range_with_len 0 (n + 1))) ≡ length (flat_map g (range_with_len 0 n)) + length (g n)
  length_next n =
      ap (λ ns. length (flat_map g ns)) (below_next n) ∙ ap length (flat_map-append g (range_with_len 0 n) (n ∷ []))
      ∙ length-append (flat_map g (range_with_len 0 n)) (g n ++ []) ∙ ap (λ ys. length (flat_map g (range_with_len 0 n)) + length ys) (append-nil (g n))

  -- pieces of one length
  pub length_even : (c m n : ℕ) → ((i : ℕ) → i < m → length (g i) ≡ c) → n ≤ m → length (flat_map g (range_with_len 0 n)) ≡ n * c
  length_even c m zero each l = omega arith
  length_even c m (suc n) each l =
      let e : suc n ≡ n + 1 = omega arith in
      omega (arith, ap (λ k. length (flat_map g (range_with_len 0 k))) e, length_next n, length_even c m n each (omega arith), each n (omega arith))

  -- a first piece, and then pieces of one length
  pub length_after_first : (c m n : ℕ) → ((i : ℕ) → 1 ≤ i → i ≤ m → length (g i) ≡ c) → n ≤ m → length (flat_map g (range_with_len 0 (n + 1))) ≡ length (g 0) + n * c
  length_after_first c m zero each l = omega (arith, length_next 0)
  length_after_first c m (suc n) each l =
      let e : suc n ≡ n + 1 = omega arith in
      omega (arith, ap (λ k. length (flat_map g (range_with_len 0 (k + 1)))) e, length_next (n + 1), length_after_first c m n each (omega arith), each (n + 1) (omega arith) (omega arith))

-- pieces that are each so many times as long as others
pub length_times : {X Y : Type 0} (g : ℕ → List X) (h : ℕ → List Y) (k n : ℕ) → ((i : ℕ) → length (g i) ≡ k * length (h i)) → length (flat_map g (range_with_len 0 n)) ≡ k * length (flat_map h (range_with_len 0 n))
length_times g h k zero each = omega arith
length_times g h k (suc n) each =
    let e : suc n ≡ n + 1 = omega arith in
    omega (arith, ap (λ i. length (flat_map g (range_with_len 0 i))) e, ap (λ i. k * length (flat_map h (range_with_len 0 i))) e, length_next g n, ap (λ i. k * i) (length_next h n), length_times g h k n each, each n)

-- two pieces in turn
pub length_both : {X : Type 0} (g h : ℕ → List X) (ns : List ℕ) → length (flat_map (λ n. g n ++ h n) ns) ≡ length (flat_map g ns) + length (flat_map h ns)
length_both g h [] = omega arith
length_both g h (n ∷ ns) =
    omega (
      arith,
      length-append (g n ++ h n) (flat_map (λ n. g n ++ h n) ns),
      length-append (g n) (h n),
      length-append (g n) (flat_map g ns),
      length-append (h n) (flat_map h ns),
      length_both g h ns,
    )
