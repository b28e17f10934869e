-- Sets of tracks as bits.
use Rattle.std.specs.Prelude.{◌≡◌, ◌≢◌, ℕ, ◌<◌}
use Rattle.std.specs.Int.{bit_at}

-- a bit that was 1 becomes 0, and no other changes
pub record TakesBit (old new bit : ℕ) : Type 0 where
  pub within : bit < 64
  pub was : bit_at old bit ≡ 1
  pub gone : bit_at new bit ≡ 0
  pub others : (i : ℕ) → i ≢ bit → bit_at new i ≡ bit_at old i

-- a bit becomes 1, and no other changes
pub record PutsBit (old new bit : ℕ) : Type 0 where
  pub here : bit_at new bit ≡ 1
  pub others : (i : ℕ) → i ≢ bit → bit_at new i ≡ bit_at old i

-- a bit becomes 0, and no other changes
pub record DropsBit (old new bit : ℕ) : Type 0 where
  pub gone : bit_at new bit ≡ 0
  pub others : (i : ℕ) → i ≢ bit → bit_at new i ≡ bit_at old i

-- all bits below this one are 0
abbrev pub NoneBelow : (bits bit : ℕ) → Type 0
NoneBelow bits bit = (i : ℕ) → i < bit → bit_at bits i ≡ 0

-- this bit is 1, and no other
pub record IsOnlyBit (bits bit : ℕ) : Type 0 where
  pub within : bit < 64
  pub has : bit_at bits bit ≡ 1
  pub only : (i : ℕ) → bit_at bits i ≡ 1 → i ≡ bit
