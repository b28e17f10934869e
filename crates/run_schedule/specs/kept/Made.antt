-- The turns of an iteration that were made so far, and which turns may follow.
use Rattle.std.specs.Prelude.{◌≡◌, ◌≢◌, ◌⊎◌, ℕ, ◌^◌, ◌<◌, ◌≤◌, Bool, false, ◌==◌, List, [], ◌∷◌, ◌++◌, length, slice_index_or}
use Rattle.std.specs.List.{All, Any, list_any}
use Rattle.gates.specs.declared.schedule.ScheduledTurn.{ScheduledTurn}
use Rattle.run_schedule.specs.Schedules.{AreTurns}

-- turns of an iteration of this many nets by this many workers
pub record TurnsMade : Type 0 where
  pub nets : ℕ
  pub workers : ℕ
  pub turns : List ScheduledTurn

-- a turn that may be made after them
pub record MayFollow (m : TurnsMade) (t : ScheduledTurn) : Type 0 where
  pub net : t.net < m.nets
  pub first : All (λ s. s.net ≢ t.net) m.turns
  pub worker : t.worker < m.workers
  pub seen : t.seen ≤ length m.turns
  pub grows : All (λ s. s.worker ≡ t.worker → s.seen ≤ t.seen) m.turns

abbrev pub with_turn : TurnsMade → ScheduledTurn → TurnsMade
with_turn m t = record m { turns = m.turns ++ t ∷ [] }

abbrev pub none_made : (nets workers : ℕ) → TurnsMade
none_made nets workers = record { nets = nets; workers = workers; turns = [] }

-- ---- how they are kept

abbrev pub has_turn : List ScheduledTurn → (net : ℕ) → Bool
has_turn turns net = list_any (λ t. t.net == net) turns

-- how many turns a worker had seen at its last one; 0 if it has made none
pub record IsLastSeen (turns : List ScheduledTurn) (worker last : ℕ) : Type 0 where
  pub most : All (λ s. s.worker ≡ worker → s.seen ≤ last) turns
  pub some : (last ≡ 0) ⊎ Any (λ s. (s.worker ≡ worker) × (s.seen ≡ last)) turns

-- for each net whether it has had its turn, and for each worker what it had seen
pub record AreKept (had : List Bool) (last : List ℕ) (turns : List ScheduledTurn) : Type 0 where
  pub few_nets : length had < 2 ^ 32
  pub few_workers : length last < 2 ^ 32
  pub made : AreTurns (length had) (length last) turns
  pub nets : (net : ℕ) → net < length had → slice_index_or had net false ≡ has_turn turns net
  pub workers : (worker : ℕ) → worker < length last → IsLastSeen turns worker (slice_index_or last worker 0)
