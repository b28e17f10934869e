-- How many nets use each node, packed: four bits a node in words of 16 nodes. The lowest three are
-- the number, and 7 means that a wide table has it; the highest is a flag.
use Rattle.std.specs.Prelude.{◌≡◌, ◌≢◌, ℕ, ◌+◌, ◌/◌, ◌%◌, ◌<◌, ◌≤◌, Bool, true, false, eqb, if◌then◌else◌, List, length, get_or, map, All}
use Rattle.std.specs.List.{range_with_len}
use Rattle.node_cost.specs.kept.Words.{number_at}

-- the four bits of a node
unfoldable pub narrow_of : (words : List ℕ) → (id : ℕ) → ℕ
narrow_of words id = number_at (get_or words (id / 16) 0) (id % 16)

-- the flag of a node
abbrev pub flag_of : (words : List ℕ) → (id : ℕ) → ℕ
flag_of words id = narrow_of words id / 8

-- the number of a node: the lowest three bits, or the table's number if they are 7
unfoldable pub count_of : (words wide : List ℕ) → (id : ℕ) → ℕ
count_of words wide id = if eqb (narrow_of words id % 8) 7 then get_or wide id 0 else narrow_of words id % 8

-- the number of each node
unfoldable pub counts_of : (words wide : List ℕ) → List ℕ
counts_of words wide = map (count_of words wide) (range_with_len 0 (length wide))

-- a block of 1,024 nodes is marked if the table has the number of one of them
abbrev pub IsMarked : (words : List ℕ) (marks : List Bool) → Type 0
IsMarked words marks = (id : ℕ) → narrow_of words id % 8 ≡ 7 → get_or marks (id / 1024) false ≡ true

-- the table has only numbers that don't fit in three bits
abbrev pub IsFull : (words wide : List ℕ) → Type 0
IsFull words wide = (id : ℕ) → narrow_of words id % 8 ≡ 7 → 7 ≤ get_or wide id 0

-- no node has a flag
abbrev pub IsPlain : (words : List ℕ) → Type 0
IsPlain words = (id : ℕ) → narrow_of words id < 8

-- words of flags, without numbers
abbrev pub AreFlags : (words : List ℕ) → Type 0
AreFlags words = (id : ℕ) → narrow_of words id % 8 ≡ 0

-- packed counts, without flags
pub record IsPacked (words wide : List ℕ) (marks : List Bool) : Type 0 where
  pub each : length words ≡ length wide / 16 + 1
  pub blocks : length marks ≡ length wide / 1024 + 1
  pub marked : IsMarked words marks
  pub full : IsFull words wide
  pub plain : IsPlain words
  pub bounded : All (λ n. n ≤ 65535) (counts_of words wide)

-- the four bits of this node become that number, and all others stay
pub record PutsNarrow (id number : ℕ) (old new : List ℕ) : Type 0 where
  pub here : narrow_of new id ≡ number
  pub elsewhere : (k : ℕ) → k ≢ id → narrow_of new k ≡ narrow_of old k

-- the table has the other one's number of each of the first nodes whose block is marked
abbrev pub AgreesBelow : (end : ℕ) → (marks : List Bool) → (from wide : List ℕ) → Type 0
AgreesBelow end marks from wide = (id : ℕ) → id < end → get_or marks (id / 1024) false ≡ true → get_or wide id 0 ≡ get_or from id 0

-- the other one's numbers from the first place on, up to the end, are copied, and those before them
-- stay
pub record CopiesPart (first end : ℕ) (from old new : List ℕ) : Type 0 where
  pub within : (id : ℕ) → first ≤ id → id < end → get_or new id 0 ≡ get_or from id 0
  pub before : (id : ℕ) → id < first → get_or new id 0 ≡ get_or old id 0

-- the table gets the other one's numbers of a block, if it is marked, and keeps those of the nodes
-- before it
pub record CopiesBlock (block : ℕ) (is_marked : Bool) (from old new : List ℕ) : Type 0 where
  pub here : is_marked ≡ true → (id : ℕ) → id / 1024 ≡ block → get_or new id 0 ≡ get_or from id 0
  pub before : (id : ℕ) → id / 1024 < block → get_or new id 0 ≡ get_or old id 0
