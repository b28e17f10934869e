-- What the wave over groups keeps true (Dijkstra 1959).
use Rattle.std.specs.Prelude.{◌≡◌, ℕ, ◌+◌, ◌-◌, ◌*◌, ◌<◌, ◌≤◌, ◌⊎◌, List, length, slice_index, slice_index_or, get_or, Contains, Some, None, min, cond}
use Rattle.std.specs.Int.{bit_at}
use Rattle.std.specs.List.{sum_by}
use Rattle.track_groups.specs.Groups.{group_at, on_track, IsOn, wire_on}
use Rattle.wavefront.specs.kept.Bounds.{Surrounds}
use Rattle.group_wave.specs.kept.WaveState.{FAR, NodeLabel, Wave}
use Rattle.wavefront.specs.Space.{HasEdge, IsInside, IsWanted, entry_cost}
use Rattle.wavefront.specs.kept.Spaces.{node_count}
use Rattle.wavefront.specs.Ways.{IsWay, way_cost}
use Rattle.wave_ground.specs.kept.Boxes.{IsLow, SinkBox, wire_of}
use Rattle.wave_ground.specs.kept.Grounds.{Ground, groups_of}
use Rattle.wave_queue.specs.kept.Queues.{Waiting}

-- the label of a node that the wave has not reached
abbrev pub unreached : NodeLabel
unreached = record { cost = FAR; parent = 0; price = 0 }

-- a node's label; a number that is no node is never reached
abbrev pub label_at : Wave → ℕ → NodeLabel
label_at w v = slice_index_or w.labels v unreached

abbrev pub cost_at : Wave → ℕ → ℕ
cost_at w v = (label_at w v).cost

abbrev pub parent_of : Wave → ℕ → ℕ
parent_of w v = (label_at w v).parent

abbrev pub price_of : Wave → ℕ → ℕ
price_of w v = (label_at w v).price

-- the wave starts here
abbrev pub IsOrigin : Wave → ℕ → Type 0
IsOrigin w v = (cost_at w v ≡ 0) × (parent_of w v ≡ v)

-- a sink of the net that the wave has yet to take
abbrev pub IsOpen : Ground → Wave → ℕ → Type 0
IsOpen g w v = IsWanted g.space v × (IsOrigin w v → ⊥)

-- no way from v to an open sink costs less
abbrev pub IsBound : Ground → Wave → (v k : ℕ) → Type 0
IsBound g w v k = (b : ℕ) (way : List ℕ) → IsOpen g w b → IsWay g.space v way b → k ≤ way_cost g.space way

-- no way leads on from v to an open sink
abbrev pub IsDead : Ground → Wave → ℕ → Type 0
IsDead g w v = (b : ℕ) (way : List ℕ) → IsOpen g w b → IsWay g.space v way b → ⊥

-- one of the boxes is around the sink in place p of the net's list, and is for it
pub record IsServed (g : Ground) (boxes : List SinkBox) (p : ℕ) : Type 0 where
  pub box : SinkBox
  pub there : Contains boxes box
  pub from : box.from ≤ p
  pub until : p < box.until
  pub around : Surrounds g.space.device box.place (slice_index g.space.net.sinks p)

-- each open sink has a box that is for it
abbrev pub Serves : Ground → Wave → Type 0
Serves g w = (p : ℕ) → p < length g.space.net.sinks → IsOpen g w (slice_index g.space.net.sinks p) → IsServed g w.boxes p

-- what is known about a group is no more than any of the boxes gives
abbrev pub AreKnown : Ground → Wave → Type 0
AreKnown g w = (group wires : ℕ) → get_or w.known group None ≡ Some wires → IsLow w.boxes (wire_of (group_at (groups_of g) group)) wires

-- v is entered from its parent, at a cost that its label covers, and its price is kept
pub record IsEntered (g : Ground) (w : Wave) (v : ℕ) : Type 0 where
  pub edge : HasEdge g.space (parent_of w v) v
  pub inside : IsInside g.space v
  pub reached : cost_at w (parent_of w v) < FAR
  pub paid : cost_at w (parent_of w v) + entry_cost g.space v ≤ cost_at w v
  pub priced : price_of w v ≡ entry_cost g.space v

-- one of the entry's tracks is v
pub record Holds (g : Ground) (e : Waiting) (v : ℕ) : Type 0 where
  pub track : ℕ
  pub bit : bit_at e.tracks track ≡ 1
  pub wire : wire_on (groups_of g) (on_track e.group track) ≡ v

-- and the entry has the label of v
pub record IsOf (g : Ground) (w : Wave) (e : Waiting) (v : ℕ) : Type 0 where
  pub holds : Holds g e v
  pub label : e.label ≡ cost_at w v

-- an entry of v waits, whose key no way over v to an open sink can undercut
pub record IsWaiting (g : Ground) (w : Wave) (v : ℕ) : Type 0 where
  pub entry : Waiting
  pub there : Contains w.queue entry
  pub is : IsOf g w entry v
  pub low : IsBound g w v (entry.key - cost_at w v)

-- an entry of v waits, whose key no way over the edge from v to b to an open sink can undercut
pub record IsEdgeCovered (g : Ground) (w : Wave) (v b : ℕ) : Type 0 where
  pub entry : Waiting
  pub there : Contains w.queue entry
  pub is : IsOf g w entry v
  pub low : IsBound g w b (entry.key - (cost_at w v + entry_cost g.space b))

-- the label went on along the edge to b, unless that is left out, or each way on over it to an
-- open sink
abbrev pub WentOn : Ground → Wave → (label b : ℕ) → Type 0
WentOn g w label b =
    IsBound g w b (w.limit - (label + entry_cost g.space b))
    ⊎ (min (cost_at w b) w.limit ≤ label + entry_cost g.space b)

-- along each edge from v the label went on
abbrev pub WentAlong : Ground → Wave → (v label : ℕ) → Type 0
WentAlong g w v label = (b : ℕ) → HasEdge g.space v b → IsInside g.space b → WentOn g w label b

-- along each edge from v its label went on, or an entry covers the edge
abbrev pub IsSettled : Ground → Wave → ℕ → Type 0
IsSettled g w v = (b : ℕ) → HasEdge g.space v b → IsInside g.space b → WentOn g w (cost_at w v) b ⊎ IsEdgeCovered g w v b

-- each node that is reached goes on, edge by edge: its label went on, or an entry covers the edge;
-- but for those that are still owed
pub record IsCompleteBut (g : Ground) (w : Wave) (Owed : ℕ → Type 0) : Type 0 where
  pub each : (v : ℕ) → cost_at w v < FAR → (b : ℕ) → HasEdge g.space v b → IsInside g.space b → WentOn g w (cost_at w v) b ⊎ (IsEdgeCovered g w v b ⊎ Owed v)

abbrev pub IsComplete : Ground → Wave → Type 0
IsComplete g w = IsCompleteBut g w (λ v. ⊥)

-- but for what is owed to the tracks of an entry
abbrev pub IsCompleteButFor : Ground → Wave → Waiting → Type 0
IsCompleteButFor g w e = IsCompleteBut g w (IsOf g w e)

-- each track of an entry is one of its group
abbrev pub AreTracks : Ground → Waiting → Type 0
AreTracks g e = (track : ℕ) → bit_at e.tracks track ≡ 1 → IsOn (groups_of g) (on_track e.group track)

-- each label is the cost of a way from a start, or more
pub record IsWave (g : Ground) (w : Wave) : Type 0 where
  pub rows : length w.labels ≡ node_count g.space
  pub near : (v : ℕ) → cost_at w v ≤ FAR
  pub within : w.limit ≤ FAR
  pub boxes : Serves g w
  pub sized : length w.known ≡ length (groups_of g)
  pub known : AreKnown g w
  pub entered : (v : ℕ) → cost_at w v < FAR → IsOrigin w v ⊎ IsEntered g w v
  pub tracks : (e : Waiting) → Contains w.queue e → AreTracks g e

-- the best is the cost of the nearest open sink, if one is reached
pub record IsBest (g : Ground) (w : Wave) : Type 0 where
  pub low : (b : ℕ) → IsOpen g w b → w.best ≤ cost_at w b
  pub met : (w.best ≡ FAR) ⊎ ((b : ℕ) × IsOpen g w b × (cost_at w b ≡ w.best))

-- an entry is looked at twice, unless its first part is done
abbrev pub weight_of : Waiting → ℕ
weight_of e = cond e.begun 1 2

-- each step of the search makes this less
abbrev pub work_of : Wave → ℕ
work_of w = 3 * sum_by (λ l. l.cost) w.labels + sum_by weight_of w.queue
