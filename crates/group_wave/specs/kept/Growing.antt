-- What holds between a tree that is grown way by way and the wave that spreads from it.
use Rattle.std.specs.Prelude.{◌≡◌, ℕ, ◌↔◌, ◌&&◌, Bool, eqb, not, List, [], ◌∷◌, length}
use Rattle.std.specs.List.{count_by}
use Rattle.route_tree.specs.declared.tree.Row.{Row}
use Rattle.route_tree.specs.Paths.{Pair}
use Rattle.route_tree.specs.Rows.{node_in, pairs_of}
use Rattle.wavefront.specs.Growth.{IsGrown, IsStart}
use Rattle.wavefront.specs.Space.{HasEdge, IsInside}
use Rattle.wavefront.specs.kept.Spaces.{node_count}
use Rattle.wave_ground.specs.kept.Grounds.{Ground, groups_of}
use Rattle.group_wave.specs.kept.WaveState.{Wave}
use Rattle.group_wave.specs.kept.Wave.{IsBest, IsComplete, IsOrigin, IsWave, cost_at, parent_of}

-- the wave is one over this many nodes and groups
pub record IsSized (g : Ground) (w : Wave) : Type 0 where
  pub rows : length w.labels ≡ node_count g.space
  pub groups : length w.known ≡ length (groups_of g)

-- the wave starts where a way may
abbrev pub Matches : Ground → List Pair → Wave → Type 0
Matches g tree w = (v : ℕ) → IsOrigin w v ↔ IsStart g.space tree v

-- the tree is grown so far, and the wave starts where a way may
pub record IsGrowth (g : Ground) (rows : List Row) (w : Wave) : Type 0 where
  pub root : node_in rows 0 ≡ g.space.net.source
  pub wave : IsWave g w
  pub complete : IsComplete g w
  pub best : IsBest g w
  pub grown : IsGrown g.space (pairs_of rows)
  pub origins : Matches g (pairs_of rows) w

-- the tree is the source alone
abbrev pub IsAlone : Ground → List Row → Type 0
IsAlone g rows = rows ≡ record { node = g.space.net.source; parent = 0 } ∷ []

-- the source leads to this node alone, and it is inside the box
pub record IsOnlyOutput (g : Ground) (pin : ℕ) : Type 0 where
  pub edge : HasEdge g.space g.space.net.source pin
  pub only : (v : ℕ) → HasEdge g.space g.space.net.source v → v ≡ pin
  pub inside : IsInside g.space pin

-- after the first way the wave starts anew
pub record StartsAnew (g : Ground) (tree : List Pair) (old new : Wave) : Type 0 where
  pub wave : IsWave g new
  pub complete : IsComplete g new
  pub origins : (v : ℕ) → IsOrigin new v ↔ (IsOrigin old v × (tree ≡ [] → ⊥))

abbrev pub is_origin : Wave → ℕ → Bool
is_origin w v = eqb (cost_at w v) 0 && eqb (parent_of w v) v

-- how many sinks the wave has yet to take
abbrev pub open_count : Ground → Wave → ℕ
open_count g w = count_by (λ v. not (is_origin w v)) g.space.net.sinks
