-- Words of 16 numbers below 16, each of four bits, the first in the lowest ones.
use Rattle.std.specs.Prelude.{◌≡◌, ◌≢◌, ℕ, ◌/◌, ◌%◌, zero, suc}

-- the number at a place
unfoldable pub number_at : (word place : ℕ) → ℕ
number_at word zero = word % 16
number_at word (suc place) = number_at (word / 16) place

-- the new word has this number at that place, and the old numbers at all others
pub record IsPut (place number old new : ℕ) : Type 0 where
  pub here : number_at new place ≡ number
  pub elsewhere : (k : ℕ) → k ≢ place → number_at new k ≡ number_at old k
