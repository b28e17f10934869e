-- Who holds which net, and who had its turn at it.
use Rattle.std.specs.Prelude.{◌≡◌, ℕ, ◌+◌, ◌<◌, ◌≤◌, ◌==◌, nat_lt, Bool, if◌then◌else◌, List, length, get_or, Option, Some, None, is_some, count_by, All}
use Rattle.congestion_book.specs.declared.turn.Turn.{Turn}

-- the worker that holds net i
abbrev pub holder_in : List (Option ℕ) → ℕ → Option ℕ
holder_in holders i = get_or holders i None

-- how many of the turns are at net i
abbrev pub turns_at : List Turn → ℕ → ℕ
turns_at turns i = count_by (λ t. t.net == i) turns

abbrev pub one_if : Bool → ℕ
one_if b = if b then 1 else 0

-- How many nets were drawn in the open iteration, the worker that holds each net, and the turns
-- made; and those of the closed ones.
pub record TurnTable : Type 0 where
  pub drawn : ℕ
  pub holders : List (Option ℕ)
  pub turns : List Turn
  pub earlier : List (List Turn)

-- the turns of an iteration name each net once, and nothing else
abbrev pub NameEachOnce : (nets : ℕ) → List Turn → Type 0
NameEachOnce nets turns = (i : ℕ) → turns_at turns i ≡ one_if (nat_lt i nets)

-- Each net below the count drawn is either held or had one turn, and no other net is held or had
-- one; in each closed iteration each net had one.
pub record AreInOrder (t : TurnTable) : Type 0 where
  pub drawn : t.drawn ≤ length t.holders
  pub once : (i : ℕ) → one_if (is_some (holder_in t.holders i)) + turns_at t.turns i ≡ one_if (nat_lt i t.drawn)
  pub closed : All (NameEachOnce (length t.holders)) t.earlier

abbrev pub turn_of : (worker net : ℕ) → (passed : Bool) → Turn
turn_of worker net passed = record { worker = worker; net = net; passed = passed }

-- each net had its turn, or this is the least one that had none
abbrev pub IsFirstWaiting : List Turn → (nets : ℕ) → Option ℕ → Type 0
IsFirstWaiting turns nets None = (i : ℕ) → i < nets → turns_at turns i ≡ 1
IsFirstWaiting turns nets (Some i) = (i < nets) × (turns_at turns i ≡ 0) × ((j : ℕ) → j < i → turns_at turns j ≡ 1)
