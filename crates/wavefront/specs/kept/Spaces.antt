-- What every search finds.
use Rattle.std.specs.Prelude.{◌≡◌, ℕ, ◌<◌, ◌^◌, true, false, length}
use Rattle.std.specs.List.Sorted.{IsStrictlyIncreasing}
use Rattle.routing_problem.specs.Fabric.{IsFabric}
use Rattle.routing_problem.specs.Nodes.{node_count_of}
use Rattle.routing_problem.specs.Problems.{is_sink}
use Rattle.wavefront.specs.Space.{Space, entry_cost, HasEdge, IsInside, IsWanted}

abbrev pub node_count : Space → ℕ
node_count s = node_count_of s.device

-- what every search finds
pub record IsSpace (s : Space) : Type 0 where
  pub fabric : IsFabric s.device
  pub few : node_count s < 8388608
  pub range : (a b : ℕ) → HasEdge s a b → b < node_count s
  pub source_in : s.net.source < node_count s
  pub source_inside : IsInside s s.net.source
  pub sinks_in : (v : ℕ) → IsWanted s v → v < node_count s
  pub are_sinks : (v : ℕ) → IsWanted s v → is_sink s.device v ≡ true
  pub ascending : IsStrictlyIncreasing s.net.sinks
  pub some_sink : 0 < length s.net.sinks
  -- nothing leads to the source, and nothing on from a sink
  pub begins : (a : ℕ) → HasEdge s a s.net.source → ⊥
  pub ends : (a b : ℕ) → HasEdge s a b → is_sink s.device a ≡ false
  pub apart : IsWanted s s.net.source → ⊥
  -- between two others, a node costs something
  pub costly : (a v b : ℕ) → HasEdge s a v → HasEdge s v b → 0 < entry_cost s v
  pub cheap : (v : ℕ) → v < node_count s → entry_cost s v < 2 ^ 80

-- only the sink is entered from v, and nothing from the sink
pub record LeadsOnlyTo (s : Space) (v sink : ℕ) : Type 0 where
  pub edge : HasEdge s v sink
  pub only : (b : ℕ) → HasEdge s v b → b ≡ sink
  pub last : (b : ℕ) → HasEdge s sink b → ⊥
