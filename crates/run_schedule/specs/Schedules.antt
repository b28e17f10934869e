-- The schedule of a run (ours): which worker made which turn of each iteration, and how many turns
-- of the iteration it had seen.
use Rattle.std.specs.Prelude.{◌≡◌, ◌≢◌, ℕ, ◌<◌, ◌≤◌, List, length, slice_index_or}
use Rattle.std.specs.List.{All, AllPairs, Any}
use Rattle.gates.specs.declared.schedule.ScheduledTurn.{ScheduledTurn}
use Rattle.node_cost.specs.Options.{most_iterations}
use Rattle.routing_problem.specs.Fabric.{most_tracks}

-- ---- an iteration

-- turns of an iteration of this many nets by this many workers, in the order they were made
pub record AreTurns (nets workers : ℕ) (turns : List ScheduledTurn) : Type 0 where
  pub of_nets : All (λ t. t.net < nets) turns
  -- no net has two
  pub once : AllPairs (λ s t. s.net ≢ t.net) turns
  pub by_workers : All (λ t. t.worker < workers) turns
  -- its worker had seen no more turns than were made before
  pub seen : (i : ℕ) (d : ScheduledTurn) → i < length turns → (slice_index_or turns i d).seen ≤ i
  -- nor fewer than at its earlier turns
  pub grows : AllPairs (λ s t. s.worker ≡ t.worker → s.seen ≤ t.seen) turns

-- all turns of an iteration: each net has one
pub record IsIteration (nets workers : ℕ) (turns : List ScheduledTurn) : Type 0 where
  pub made : AreTurns nets workers turns
  pub all : (net : ℕ) → net < nets → Any (λ t. t.net ≡ net) turns

-- ---- trials

-- a trial: a negotiation on a device with this many tracks, by the turns of its iterations
pub record TrialTurns : Type 0 where
  pub width : ℕ
  pub iterations : List (List ScheduledTurn)

pub record IsTrial (nets workers : ℕ) (t : TrialTurns) : Type 0 where
  pub width_least : 1 ≤ t.width
  pub width : t.width ≤ most_tracks
  pub iterations_least : 1 ≤ length t.iterations
  pub iterations : length t.iterations ≤ most_iterations
  pub each : All (IsIteration nets workers) t.iterations

-- the trials of a run, in the order in which they were made
pub record AreTrials (nets workers : ℕ) (trials : List TrialTurns) : Type 0 where
  pub some : 1 ≤ length trials
  pub each : All (IsTrial nets workers) trials
