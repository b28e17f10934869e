-- Wires that wait, in the buckets of their keys.
use Rattle.std.specs.Prelude.{ℕ, ◌≡◌, ◌≤◌, ◌<◌, Bool, List, [], length, map, get_or, All}
use Rattle.std.specs.List.{flat_map}
use Rattle.wave_queue.specs.declared.queue.QueueEntry.{QueueEntry}
use Rattle.wave_queue.specs.kept.Buckets.{bucket_of}

-- wires of one group that wait
pub record Waiting : Type 0 where
  pub key : ℕ
  pub label : ℕ
  pub group : ℕ
  pub tracks : ℕ
  pub begun : Bool

abbrev pub entry_of : {K : Type 0} → (value : K → ℕ) → QueueEntry K → Waiting
entry_of value e = record { key = value e.key; label = value e.label; group = e.group; tracks = e.tracks; begun = e.is_begun }

-- all entries of the rows
abbrev pub all_of : {X : Type 0} → List (List X) → List X
all_of rows = flat_map (λ row. row) rows

abbrev pub entries_of : {K : Type 0} → (value : K → ℕ) → List (List (QueueEntry K)) → List Waiting
entries_of value rows = map (entry_of value) (all_of rows)

-- an entry may be in row i: that is the bucket of its key, from low on and before end
pub record IsPlaced {K : Type 0} (value : K → ℕ) (low end i : ℕ) (e : QueueEntry K) : Type 0 where
  pub here : bucket_of (value e.key) ≡ i
  pub from : low ≤ i
  pub until : i < end

-- all entries are in the buckets of their keys, none before low and none from end on
abbrev pub ArePlaced : {K : Type 0} → (value : K → ℕ) → (low end : ℕ) → List (List (QueueEntry K)) → Type 0
ArePlaced value low end rows = (i : ℕ) → All (IsPlaced value low end i) (get_or rows i [])

pub record IsBucketed {K : Type 0} (value : K → ℕ) (rows : List (List (QueueEntry K))) (low end count : ℕ) : Type 0 where
  pub placed : ArePlaced value low end rows
  pub within : end ≤ length rows
  pub counted : length (all_of rows) ≡ count

-- the bucket of a key is the lowest with entries, and isn't above the bucket of a bound
pub record IsLowest (old : List Waiting) (key bound : ℕ) : Type 0 where
  pub near : bucket_of key ≤ bucket_of bound
  pub least : All (λ e. bucket_of key ≤ bucket_of e.key) old

-- no entry was taken, and all keys are above the bound
pub record IsPast (old new : List Waiting) (bound : ℕ) : Type 0 where
  pub same : new ≡ old
  pub past : All (λ e. bound < e.key) old
