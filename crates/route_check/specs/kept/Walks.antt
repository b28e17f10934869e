-- Walks from the sinks of a net up to its source. Each pair has the number of the walk that met it
-- first, or 0.
use Rattle.std.specs.Prelude.{◌≡◌, ◌≢◌, ℕ, ◌+◌, ◌<◌, ◌⊎◌, List, length, get_or, Contains}
use Rattle.route_tree.specs.Paths.{Pair, Path}
use Rattle.route_tree.specs.Legality.{LeadsToSink}
use Rattle.route_check.specs.kept.Ends.{begin_in, end_in}
use Rattle.route_check.specs.kept.Judged.{net_of}

-- a walk has met pair k
abbrev pub IsMet : (walks : List ℕ) → ℕ → Type 0
IsMet walks k = get_or walks k 0 ≢ 0

-- a pair that was met ends where the pair begins
abbrev pub HasMetParent : List Pair → (walks : List ℕ) → ℕ → Type 0
HasMetParent pairs walks k = (j : ℕ) × (j < length pairs) × (end_in pairs j ≡ begin_in pairs k) × IsMet walks j

-- pair k is on a way from the source to a sink, and so is what leads to it
pub record IsOnWay (source : ℕ) (sinks : List ℕ) (pairs : List Pair) (walks : List ℕ) (k : ℕ) : Type 0 where
  pub reached : Path pairs source (end_in pairs k)
  pub leads : LeadsToSink (net_of source sinks) pairs (end_in pairs k)
  pub behind : (source ≡ begin_in pairs k) ⊎ HasMetParent pairs walks k

-- what the walks before this one met is on a way
pub record AreWalked (source : ℕ) (sinks : List ℕ) (pairs : List Pair) (walk : ℕ) (walks : List ℕ) : Type 0 where
  pub each : length walks ≡ length pairs
  pub earlier : (k : ℕ) → get_or walks k 0 < walk
  pub met : (k : ℕ) → k < length pairs → IsMet walks k → IsOnWay source sinks pairs walks k

-- all pairs that end in node a were met
abbrev pub AreAllMet : List Pair → (walks : List ℕ) → ℕ → Type 0
AreAllMet pairs walks a = (k : ℕ) → k < length pairs → end_in pairs k ≡ a → IsMet walks k

-- one more walk, from node a
pub record IsWalkedFrom (source : ℕ) (sinks : List ℕ) (pairs : List Pair) (walk a : ℕ) (old new : List ℕ) : Type 0 where
  pub walked : AreWalked source sinks pairs (walk + 1) new
  pub left : AreAllMet pairs new a
  pub kept : (k : ℕ) → IsMet old k → IsMet new k

-- a walk from each sink
pub record AreAllWalked (source : ℕ) (sinks : List ℕ) (pairs : List Pair) (walks : List ℕ) : Type 0 where
  pub each : length walks ≡ length pairs
  pub met : (k : ℕ) → k < length pairs → IsMet walks k → IsOnWay source sinks pairs walks k
  pub left : (s : ℕ) → Contains sinks s → AreAllMet pairs walks s
