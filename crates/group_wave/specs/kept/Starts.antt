-- How a wave begins, and starts at nodes.
use Rattle.std.specs.Prelude.{◌≡◌, ℕ, ◌<◌, ◌≤◌, ◌⊎◌, [], ◌∷◌, Contains, List, length, replicate, slice_index, slice_set, Some, None, true}
use Rattle.std.specs.Int.{bit_at}
use Rattle.std.specs.List.Sorted.{IsPermutation}
use Rattle.routing_problem.specs.node.Kind.TheVariants.{Opin}
use Rattle.routing_problem.specs.Nodes.{is_wire_at, kind_of_node}
use Rattle.track_groups.specs.declared.group.Drive.{Drive}
use Rattle.track_groups.specs.Groups.{on_track, wire_on}
use Rattle.wavefront.specs.Space.{HasEdge, IsInside}
use Rattle.wavefront.specs.Boxes.{BoundingBox, box_of_node}
use Rattle.wavefront.specs.kept.Bounds.{IsInsideBox}
use Rattle.wave_ground.specs.kept.Boxes.{SinkBox}
use Rattle.wave_ground.specs.kept.Grounds.{Ground, groups_of}
use Rattle.group_wave.specs.kept.WaveState.{FAR, Wave}
use Rattle.group_wave.specs.kept.Wave.{IsComplete, IsDead, IsOpen, IsOrigin, IsServed, IsWave, Serves, WentOn, cost_at, unreached}
use Rattle.group_wave.specs.kept.Steps.{MoreOrigins}

-- no boxes are left, and nothing is known that was found in them
pub record HasNoBoxes (old new : Wave) : Type 0 where
  pub labels : new.labels ≡ old.labels
  pub queue : new.queue ≡ old.queue
  pub limit : new.limit ≡ old.limit
  pub best : new.best ≡ old.best
  pub boxes : new.boxes ≡ []
  pub known : new.known ≡ replicate (length old.known) None

-- one more box is there, for the sinks from one place of the net's list to the one before another
pub record ServesMore (g : Ground) (old new : Wave) (from until : ℕ) : Type 0 where
  pub labels : new.labels ≡ old.labels
  pub queue : new.queue ≡ old.queue
  pub limit : new.limit ≡ old.limit
  pub best : new.best ≡ old.best
  pub known : new.known ≡ old.known
  pub more : (box : SinkBox) → Contains old.boxes box → Contains new.boxes box
  pub part : (p : ℕ) → from ≤ p → p < until → IsServed g new.boxes p

-- a box is removed
pub record IsWithout (old new : Wave) (box : SinkBox) : Type 0 where
  pub labels : new.labels ≡ old.labels
  pub queue : new.queue ≡ old.queue
  pub limit : new.limit ≡ old.limit
  pub best : new.best ≡ old.best
  pub known : new.known ≡ old.known
  pub boxes : IsPermutation old.boxes (box ∷ new.boxes)

-- a box is around those sinks from one place of the net's list to the one before another that the
-- wave has yet to take
abbrev pub IsAroundLeft : Ground → Wave → (from until : ℕ) → BoundingBox → Type 0
IsAroundLeft g w from until box =
    (p : ℕ) → from ≤ p → p < until → p < length g.space.net.sinks → IsOpen g w (slice_index g.space.net.sinks p) → IsInsideBox (box_of_node g.space.device (slice_index g.space.net.sinks p)) box

-- one of the boxes has all of a box
pub record IsWithin (boxes : List SinkBox) (box : SinkBox) : Type 0 where
  pub outer : SinkBox
  pub there : Contains boxes outer
  pub inside : IsInsideBox box.place outer.place

-- a box replaces another
pub record IsBoxPut (old new : Wave) (at : ℕ) (box : SinkBox) : Type 0 where
  pub labels : new.labels ≡ old.labels
  pub queue : new.queue ≡ old.queue
  pub limit : new.limit ≡ old.limit
  pub best : new.best ≡ old.best
  pub known : new.known ≡ old.known
  pub boxes : new.boxes ≡ slice_set old.boxes at box

-- boxes are removed or made narrower, and each sink that the wave has yet to take has its own still
pub record IsNarrowed (g : Ground) (old new : Wave) : Type 0 where
  pub labels : new.labels ≡ old.labels
  pub queue : new.queue ≡ old.queue
  pub limit : new.limit ≡ old.limit
  pub best : new.best ≡ old.best
  pub known : new.known ≡ old.known
  pub within : (box : SinkBox) → Contains new.boxes box → IsWithin old.boxes box
  pub serves : Serves g new

-- boxes are put anew around the sinks, and nothing is known that was found in others
pub record IsAimed (g : Ground) (old new : Wave) : Type 0 where
  pub labels : new.labels ≡ old.labels
  pub queue : new.queue ≡ old.queue
  pub limit : new.limit ≡ old.limit
  pub best : new.best ≡ old.best
  pub known : new.known ≡ replicate (length old.known) None
  pub serves : Serves g new

-- no node is reached, and nothing waits
pub record IsCleared (old new : Wave) : Type 0 where
  pub labels : new.labels ≡ replicate (length old.labels) unreached
  pub queue : new.queue ≡ []
  pub limit : new.limit ≡ FAR
  pub best : new.best ≡ FAR
  pub known : new.known ≡ old.known

-- another cost is kept as that of the nearest sink
pub record IsBestPut (old new : Wave) (cost : ℕ) : Type 0 where
  pub labels : new.labels ≡ old.labels
  pub queue : new.queue ≡ old.queue
  pub limit : new.limit ≡ old.limit
  pub best : new.best ≡ cost
  pub boxes : new.boxes ≡ old.boxes
  pub known : new.known ≡ old.known

-- it is the cost of the nearest open sink, if one is reached
pub record IsLeastCost (g : Ground) (w : Wave) (least : ℕ) : Type 0 where
  pub low : (b : ℕ) → IsOpen g w b → least ≤ cost_at w b
  pub met : (least ≡ FAR) ⊎ ((b : ℕ) × IsOpen g w b × (cost_at w b ≡ least))

-- the lower of a cost and a node's, unless the wave starts there
pub record IsNearerOf (w : Wave) (node old new : ℕ) : Type 0 where
  pub down : new ≤ old
  pub low : (IsOrigin w node → ⊥) → new ≤ cost_at w node
  pub met : (new ≡ old) ⊎ ((IsOrigin w node → ⊥) × (cost_at w node ≡ new))

-- the tracks that are driven were offered the way
abbrev pub TookDrive : Ground → Wave → (label : ℕ) → Drive → Type 0
TookDrive g w label d =
    (j : ℕ) → bit_at d.tracks j ≡ 1 → IsInside g.space (wire_on (groups_of g) (on_track d.group j)) → WentOn g w label (wire_on (groups_of g) (on_track d.group j))

-- no way leads on from the node to an open sink
abbrev pub IsEnd : Ground → Wave → ℕ → Type 0
IsEnd g w node = (b : ℕ) → HasEdge g.space node b → IsDead g w b

-- a wire, an output pin, or a node from which no way leads on
abbrev pub MayStart : Ground → Wave → ℕ → Type 0
MayStart g w node = (is_wire_at g.space.device node ≡ true) ⊎ ((kind_of_node g.space.device node ≡ Some Opin) ⊎ IsEnd g w node)

-- the wave starts at the node too
pub record StartsAt (g : Ground) (old new : Wave) (node : ℕ) : Type 0 where
  pub wave : IsWave g new
  pub complete : IsComplete g new
  pub origins : MoreOrigins old new node
