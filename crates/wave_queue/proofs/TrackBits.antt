-- Bits removed from a set and added to it.
use Rattle.std.proofs.Common.{◌≡◌, ℕ, ◌*◌, ◌%◌, ◌^◌, ◌<◌, ◌≤◌, ◌∙◌, sym, ap, arith, inl, inr, w64}
use Rattle.std.proofs.lemmas.Bool.{cases_eq, cases_lt}
use Rattle.std.proofs.lemmas.Nat.{and_le_l}
use Rattle.std.proofs.lemmas.Nat.Bits.{bit_at-trailing_zeros, bit_at_clear_same, bit_at_clear_other, bit_at_set_same, bit_at_set_other, bit_at_above}
use Rattle.std.specs.Prelude.{bit_and, bit_or}
use Rattle.std.specs.Int.{bit_at, bit_not, trailing_zeros}
use Rattle.wave_queue.specs.kept.Bits.{TakesBit, PutsBit, DropsBit}

abbrev without : (bits bit : ℕ) → ℕ
without bits bit = bit_and bits (bit_not w64 (1 * 2 ^ bit % 2 ^ 64))

pub bit_dropped : (bits bit : ℕ) → bits < 2 ^ 64 → bit < 64 → DropsBit bits (without bits bit) bit
bit_dropped bits bit fits within =
    let less : without bits bit ≤ bits = and_le_l bits (bit_not w64 (1 * 2 ^ bit % 2 ^ 64)) in
    record {
      gone = bit_at_clear_same w64 bits bit within;
      others = λ i apart. elim (cases_lt i 64) [
        | inl low ↦ bit_at_clear_other w64 bits bit within i low apart
        | inr high ↦ bit_at_above (without bits bit) 64 i (omega (arith, less, fits)) high ∙ sym (bit_at_above bits 64 i fits high)
      ];
    }

pub bit_taken : (bits bit : ℕ) → 0 < bits → bits < 2 ^ 64 → bit ≡ trailing_zeros w64 bits → TakesBit bits (without bits bit) bit
bit_taken bits bit some fits is =
    let lowest = bit_at-trailing_zeros w64 bits some fits in
    let within : bit < 64 = omega (arith, lowest.0, is) in
    let dropped = bit_dropped bits bit fits within in
    record { within = within; was = ap (bit_at bits) is ∙ lowest.1; gone = dropped.gone; others = dropped.others }

pub fewer_left : (bits bit : ℕ) → TakesBit bits (without bits bit) bit → without bits bit < bits
fewer_left bits bit taken = elim (cases_eq (without bits bit) bits) [
  | inl same ↦ absurd (let both = ap (λ n. bit_at n bit) same in omega (arith, both, taken.was, taken.gone))
  | inr other ↦ omega (arith, other, and_le_l bits (bit_not w64 (1 * 2 ^ bit % 2 ^ 64)))
]

pub bit_put : (bits bit : ℕ) → bit < 64 → PutsBit bits (bit_or bits (1 * 2 ^ bit % 2 ^ 64)) bit
bit_put bits bit within = record {
  here = bit_at_set_same w64 bits bit within;
  others = λ i apart. bit_at_set_other w64 bits bit within i apart;
}
