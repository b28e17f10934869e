-- Marks of places: a bit for each place, 64 in a word.
use Rattle.std.specs.Prelude.{◌≡◌, ◌≢◌, ℕ, ◌+◌, ◌/◌, ◌%◌, ◌<◌, ◌≤◌, List, [], length, get_or}
use Rattle.std.specs.Int.{bit_at}
use Rattle.wave_queue.specs.kept.Buckets.{most_buckets}

-- 1 if a place is marked, else 0
unfoldable pub mark_at : List ℕ → ℕ → ℕ
mark_at words place = bit_at (get_or words (place / 64) 0) (place % 64)

-- a place is marked, and no other mark changes
pub record Marks (old new : List ℕ) (place : ℕ) : Type 0 where
  pub count : length new ≡ length old
  pub here : mark_at new place ≡ 1
  pub others : (i : ℕ) → i ≢ place → mark_at new i ≡ mark_at old i

-- a place's mark is removed, and no other changes
pub record Unmarks (old new : List ℕ) (place : ℕ) : Type 0 where
  pub count : length new ≡ length old
  pub here : mark_at new place ≡ 0
  pub others : (i : ℕ) → i ≢ place → mark_at new i ≡ mark_at old i

-- bit j is the mark of the j-th place from one on, as far as they are in the same word, and 0 after
-- them
pub record AreMarksFrom (words : List ℕ) (place bits : ℕ) : Type 0 where
  pub within : (j : ℕ) → place % 64 + j < 64 → bit_at bits j ≡ mark_at words (place + j)
  pub past : (j : ℕ) → 64 ≤ place % 64 + j → bit_at bits j ≡ 0

-- exactly the rows with elements are marked; there are marks for the greatest number of rows
pub record AreUsed {X : Type 0} (rows : List (List X)) (words : List ℕ) : Type 0 where
  pub each : length words ≡ most_buckets / 64 + 1
  pub few : length rows ≤ most_buckets
  pub off : (i : ℕ) → mark_at words i ≡ 0 → get_or rows i [] ≡ []
  pub on : (i : ℕ) → mark_at words i ≡ 1 → 0 < length (get_or rows i [])
