-- A wire ends within the places that the wires of its track pass at most.
use Rattle.std.proofs.Common.{◌≡◌, ℕ, ◌+◌, ◌-◌, ◌*◌, ◌/◌, ◌%◌, ◌<◌, ◌≤◌, inl, inr, Bool, true, length, sym, ap, ◌∙◌, arith}
use Rattle.std.specs.Prelude.{◌==◌, not}
use Rattle.std.specs.List.{range_with_len, position_or_len}
use Rattle.std.proofs.Math.Nat.{div-add-mod, mod-lt, mul-mod_right}
use Rattle.std.proofs.lemmas.Bool.{cases_lt, eq-eqb, or_right, false≢true}
use Rattle.std.proofs.lemmas.List.Sums.{fails_before_first, prefix_len-le-length}
use Rattle.std.proofs.lemmas.List.FromFn.{length-range_with_len, get_or-range_with_len}
use Rattle.channel_tables.specs.Fabric.{Fabric, IsFabric}
use Rattle.channel_tables.specs.Wires.{rank_of, length_of, reach_of, begins, steps_of}
use Rattle.channel_tables.proofs.WireTables.{some_length}

-- the first number of a range that passes a test stands no later than any that does
first_by : (b : ℕ → Bool) (a m k : ℕ) → b (a + k) ≡ true → position_or_len b (range_with_len a m) ≤ k
first_by b a m k passes =
    let ks = range_with_len a m in
    let size : length ks ≡ m = length-range_with_len a m in
    let most = prefix_len-le-length (λ j. not (b j)) ks in
    elim (cases_lt k (position_or_len b ks)) [
      | inl later ↦
          let here : k < m = omega arith in
          absurd (false≢true (sym (fails_before_first b ks k 0 later) ∙ ap b (get_or-range_with_len a m k 0 here) ∙ passes))
      | inr upto ↦ upto
    ]

-- a number less than d that makes a multiple of d of another
up_to_multiple : (s d : ℕ) → 1 ≤ d → (s + (d - 1 - (s + (d - 1)) % d)) % d ≡ 0
up_to_multiple s d some =
    let x = s + (d - 1) in
    let whole : s + (d - 1 - x % d) ≡ d * (x / d) = omega (arith, div-add-mod x d, mod-lt x some) in
    ap (λ m. m % d) whole ∙ mul-mod_right d (x / d)

-- the rank of a track of a device
abbrev rank : Fabric → ℕ → ℕ
rank f track = rank_of f.architecture.segments f.width track

begins_after : (f : Fabric) (n track place k : ℕ) → (place + rank f track + k) % length_of f n track ≡ 0 → begins f n track (place + 1 + k) ≡ true
unfolding begins
begins_after f n track place k whole =
    let e : place + 1 + k - 1 + rank f track ≡ place + rank f track + k = omega arith in
    or_right (place + 1 + k == 1) ((place + 1 + k - 1 + rank f track) % length_of f n track == 0)
    (eq-eqb _ _ (ap (λ m. m % length_of f n track) e ∙ whole))

pub steps_within : (f : Fabric) → IsFabric f → (n track place : ℕ) → 1 ≤ n → steps_of f n track place + 1 ≤ length_of f n track
unfolding steps_of
steps_within f l n track place some =
    let d = length_of f n track in
    let positive : 1 ≤ d = some_length f n track l some in
    let k = d - 1 - (place + rank f track + (d - 1)) % d in
    let first = first_by (begins f n track) (place + 1) (n - place) k (begins_after f n track place k (up_to_multiple (place + rank f track) d positive)) in
    omega arith

pub row_within : (f : Fabric) → IsFabric f → (track place : ℕ) → steps_of f f.nx track place + 1 ≤ reach_of f track
unfolding reach_of
row_within f l track place = omega (arith, steps_within f l f.nx track place l.some_columns)

pub column_within : (f : Fabric) → IsFabric f → (track place : ℕ) → steps_of f f.ny track place + 1 ≤ reach_of f track
unfolding reach_of
column_within f l track place = omega (arith, steps_within f l f.ny track place l.some_rows)
