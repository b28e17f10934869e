-- What each step of the wave over groups does.
use Rattle.std.specs.Prelude.{◌≡◌, ℕ, ◌+◌, ◌*◌, ◌^◌, ◌<◌, ◌≤◌, ◌⊎◌, ◌↔◌, Bool, true, false, cond, List, ◌∷◌, length, get_or, slice_set, Contains, min}
use Rattle.std.specs.Int.{bit_at}
use Rattle.std.specs.List.Sorted.{IsPermutation}
use Rattle.routing_problem.specs.InputPins.{IsPinOf}
use Rattle.routing_problem.specs.Nodes.{is_wire_at}
use Rattle.track_groups.specs.declared.group.Group.{Group}
use Rattle.track_groups.specs.declared.group.Tap.{Tap}
use Rattle.track_groups.specs.Groups.{IsOn, group_at, node_on, on_track, wire_on}
use Rattle.track_groups.specs.Joints.{taps_of, wire_beside}
use Rattle.group_wave.specs.kept.WaveState.{FAR, NodeLabel, Wave}
use Rattle.wavefront.specs.Space.{HasEdge, IsInside, IsWanted, entry_cost}
use Rattle.wavefront.specs.kept.Bounds.{left_over}
use Rattle.wave_ground.specs.kept.Boxes.{IsLow, wire_of}
use Rattle.wavefront.specs.kept.Spaces.{node_count}
use Rattle.wavefront.specs.Ways.{AreDistinct, IsWay, way_cost}
use Rattle.wave_ground.specs.kept.Grounds.{Ground, IsGround, groups_of}
use Rattle.wave_queue.specs.kept.Queues.{Waiting}
use Rattle.group_wave.specs.kept.Wave.{AreTracks, IsBest, IsComplete, IsOf, IsOpen, IsOrigin, IsSettled, IsWave, WentOn, cost_at, label_at, price_of, weight_of, work_of}

-- t is w with the label of a node set
pub record IsLabelled (w t : Wave) (node : ℕ) (label : NodeLabel) : Type 0 where
  pub labels : t.labels ≡ slice_set w.labels node label
  pub queue : t.queue ≡ w.queue
  pub limit : t.limit ≡ w.limit
  pub boxes : t.boxes ≡ w.boxes
  pub known : t.known ≡ w.known

-- t is w with another node before one, at the cost that it has
pub record IsSameCost (w t : Wave) (node cost parent greatest : ℕ) : Type 0 where
  pub set : IsLabelled w t node (record { cost = cost; parent = parent; price = price_of w node })
  pub best : t.best ≡ w.best
  pub same : cost ≡ cost_at w node
  pub fits : cost < greatest

-- t is w with one entry more
pub record IsPushed (w t : Wave) (e : Waiting) : Type 0 where
  pub labels : t.labels ≡ w.labels
  pub queue : IsPermutation (e ∷ w.queue) t.queue
  pub limit : t.limit ≡ w.limit
  pub best : t.best ≡ w.best
  pub boxes : t.boxes ≡ w.boxes
  pub known : t.known ≡ w.known

-- t is w without an entry
pub record IsPopped (w t : Wave) (e : Waiting) : Type 0 where
  pub labels : t.labels ≡ w.labels
  pub queue : IsPermutation w.queue (e ∷ t.queue)
  pub limit : t.limit ≡ w.limit
  pub best : t.best ≡ w.best
  pub boxes : t.boxes ≡ w.boxes
  pub known : t.known ≡ w.known

-- t is w but for what is known about groups, and that all that costs this, or more, may be left out
pub record IsNoted (w t : Wave) (out : ℕ) : Type 0 where
  pub labels : t.labels ≡ w.labels
  pub queue : t.queue ≡ w.queue
  pub limit : t.limit ≤ min w.limit out
  pub best : t.best ≡ w.best
  pub boxes : t.boxes ≡ w.boxes

-- a cost that doesn't fit is left out
pub record IsLeftOut (w t : Wave) (cost greatest : ℕ) : Type 0 where
  pub noted : IsNoted w t greatest
  pub known : t.known ≡ w.known
  pub out : greatest ≤ cost

-- labels go down, and if one does its node is settled, or new
pub record Lowers (g : Ground) (old new : Wave) (New : ℕ → Type 0) : Type 0 where
  pub down : (v : ℕ) → cost_at new v ≤ cost_at old v
  pub wait : (v : ℕ) → (cost_at new v ≡ cost_at old v) ⊎ (IsSettled g new v ⊎ New v)
  pub origins : (v : ℕ) → IsOrigin new v ↔ IsOrigin old v
  pub kept : (e : Waiting) → Contains old.queue e → Contains new.queue e
  pub limit : new.limit ≤ old.limit
  pub boxes : new.boxes ≡ old.boxes

-- the best and the labels of sinks are as they were
pub record KeepsSinks (g : Ground) (old new : Wave) : Type 0 where
  pub best : new.best ≡ old.best
  pub labels : (b : ℕ) → IsWanted g.space b → label_at new b ≡ label_at old b

-- a step of the search: labels go down, and each node whose label does is settled
pub record Spreads (g : Ground) (old new : Wave) : Type 0 where
  pub wave : IsWave g new
  pub lowers : Lowers g old new (λ v. ⊥)
  pub work : work_of new ≤ work_of old
  pub best : IsBest g old → IsBest g new

-- nodes of a label, for track j the node first + j * step, from each of which an edge leads to its
-- track of a group inside the box
pub record IsOffer (g : Ground) (w : Wave) (label first step group tracks : ℕ) : Type 0 where
  pub on : (j : ℕ) → bit_at tracks j ≡ 1 → IsOn (groups_of g) (on_track group j)
  pub edge : (j : ℕ) → bit_at tracks j ≡ 1 → HasEdge g.space (first + j * step) (wire_on (groups_of g) (on_track group j))
  pub inside : (j : ℕ) → bit_at tracks j ≡ 1 → IsInside g.space (wire_on (groups_of g) (on_track group j))
  pub from : (j : ℕ) → bit_at tracks j ≡ 1 → cost_at w (first + j * step) ≤ label

-- from a node of at most this label an edge leads to a wire inside the box
pub record IsStep (g : Ground) (w : Wave) (label wire parent : ℕ) : Type 0 where
  pub edge : HasEdge g.space parent wire
  pub inside : IsInside g.space wire
  pub from : cost_at w parent ≤ label
  pub near : label < FAR
  pub is : is_wire_at g.space.device wire ≡ true
  pub within : wire < node_count g.space

-- the wire of a track of a group
pub record IsTarget (g : Ground) (group track wire : ℕ) : Type 0 where
  pub on : IsOn (groups_of g) (on_track group track)
  pub is : wire_on (groups_of g) (on_track group track) ≡ wire

-- a wire is offered a way from nodes of a label; it waits if its label went down, unless it has the
-- least label there can be
pub record RelaxesTrack (g : Ground) (old new : Wave) (label least wire : ℕ) (is_fresh : Bool) : Type 0 where
  pub wave : IsWave g new
  pub lowers : Lowers g old new (λ v. (is_fresh ≡ true) × (v ≡ wire))
  pub at : is_fresh ≡ true → cost_at new wire ≡ least
  pub went : WentOn g new label wire
  pub work : work_of new + 2 * cond is_fresh 1 0 ≤ work_of old
  pub sinks : KeepsSinks g old new

-- an entry of these tracks of a group, that isn't put in yet
abbrev pub fresh_entry : (label group tracks : ℕ) → Waiting
fresh_entry label group tracks = record { key = 0; label = label; group = group; tracks = tracks; begun = false }

-- it is put in by a key that as many wires and a pin as lead on at least may add to its label
pub record WaitsFresh (g : Ground) (old new : Wave) (e : Waiting) : Type 0 where
  pub middle : Wave
  pub noted : IsNoted old middle FAR
  pub wave : IsWave g middle
  pub wires : ℕ
  pub low : IsLow middle.boxes (wire_of (group_at (groups_of g) e.group)) wires
  pub entry : Waiting
  pub pushed : IsPushed middle new entry
  pub key : entry.key ≤ e.label + left_over wires
  pub label : entry.label ≡ e.label
  pub group : entry.group ≡ e.group
  pub tracks : entry.tracks ≡ e.tracks
  pub first : entry.begun ≡ false

-- the tracks of a group that aren't left are offered a way; those that have the least label there
-- can be are yet to wait
pub record RelaxesSome (g : Ground) (old new : Wave) (label least group tracks left fresh : ℕ) : Type 0 where
  pub wave : IsWave g new
  pub lowers : Lowers g old new (IsOf g new (fresh_entry least group fresh))
  pub on : AreTracks g (fresh_entry least group fresh)
  pub of : (j : ℕ) → bit_at left j ≡ 1 → bit_at tracks j ≡ 1
  pub went : (j : ℕ) → bit_at tracks j ≡ 1 → (bit_at left j ≡ 1 → ⊥) → WentOn g new label (wire_on (groups_of g) (on_track group j))
  pub work : work_of new + 2 * min 1 fresh ≤ work_of old
  pub sinks : KeepsSinks g old new

-- these tracks of a group were offered a way from nodes of a label
pub record Relaxes (g : Ground) (old new : Wave) (label group tracks : ℕ) : Type 0 where
  pub spreads : Spreads g old new
  pub went : (j : ℕ) → bit_at tracks j ≡ 1 → WentOn g new label (wire_on (groups_of g) (on_track group j))

-- the wave starts where it did
abbrev pub SameOrigins : Wave → Wave → Type 0
SameOrigins old new = (v : ℕ) → IsOrigin new v ↔ IsOrigin old v

-- the wave starts where it did, if not elsewhere too
abbrev pub KeepsOrigins : Wave → Wave → Type 0
KeepsOrigins old new = (v : ℕ) → IsOrigin old v → IsOrigin new v

-- the wave starts where it did, and at x
abbrev pub MoreOrigins : Wave → Wave → ℕ → Type 0
MoreOrigins old new x = (v : ℕ) → IsOrigin new v ↔ (IsOrigin old v ⊎ (v ≡ x))

abbrev pub NoOrigins : Wave → Type 0
NoOrigins w = (v : ℕ) → IsOrigin w v → ⊥

-- no way from a start to an open sink costs less than the key
abbrev pub IsLeastKey : Ground → Wave → ℕ → Type 0
IsLeastKey g w key = (a b : ℕ) (way : List ℕ) → IsOrigin w a → IsOpen g w b → IsWay g.space a way b → key ≤ way_cost g.space way

-- all that waits has a greater key than the best
abbrev pub IsAbove : Wave → Type 0
IsAbove w = (e : Waiting) → Contains w.queue e → w.best < e.key

-- a sink is taken at its label, the least
pub record IsTaken (g : Ground) (w : Wave) (sink : ℕ) : Type 0 where
  pub «open» : IsOpen g w sink
  pub reached : cost_at w sink < FAR
  pub least : IsLeastKey g w (cost_at w sink)

-- the wave reached a sink that it has yet to take
pub record HasReached (g : Ground) (w : Wave) (sink : ℕ) : Type 0 where
  pub ground : IsGround g
  pub wave : IsWave g w
  pub «open» : IsOpen g w sink
  pub reached : cost_at w sink < FAR

-- the way by which the wave reached a sink
pub record IsTraced (g : Ground) (w : Wave) (a : ℕ) (way : List ℕ) (sink : ℕ) : Type 0 where
  pub start : IsOrigin w a
  pub walk : IsWay g.space a way sink
  pub apart : (v : ℕ) → Contains way v → IsOrigin w v → ⊥
  pub distinct : AreDistinct way
  pub paid : way_cost g.space way ≤ cost_at w sink

-- it is such a way on any ground where the wave reached the sink
pub record IsWayBack (w : Wave) (a : ℕ) (way : List ℕ) (sink : ℕ) : Type 0 where
  pub on : (g : Ground) → HasReached g w sink → IsTraced g w a way sink

-- t is w with a sink's label set, and its cost the best if none is less
pub record LowersSink (w t : Wave) (sink : ℕ) (label : NodeLabel) : Type 0 where
  pub set : IsLabelled w t sink label
  pub best : t.best ≡ min w.best label.cost

-- a node's label is as it was if that costs no more; or the node before it is another, at the same
-- cost; or it doesn't fit
abbrev pub KeepsLabel : (w t : Wave) → (node cost parent greatest : ℕ) → Type 0
KeepsLabel w t node cost parent greatest =
    ((t ≡ w) × (cost_at w node ≤ cost))
    ⊎ (IsSameCost w t node cost parent greatest ⊎ IsLeftOut w t cost greatest)

-- a node was offered a way from nodes of a label
pub record Enters (g : Ground) (old new : Wave) (label node : ℕ) : Type 0 where
  pub spreads : Spreads g old new
  pub went : IsInside g.space node → WentOn g new label node

-- a node of at most a label, from which an edge leads to another, which is entered at a cost above
-- 0
pub record IsFrom (g : Ground) (w : Wave) (label parent node : ℕ) : Type 0 where
  pub edge : HasEdge g.space parent node
  pub from : cost_at w parent ≤ label
  pub near : label < FAR
  pub some : 0 < label + entry_cost g.space node

-- a way to a node over its parent that costs less than its label says
pub record IsEntering (g : Ground) (w : Wave) (cost parent node : ℕ) : Type 0 where
  pub edge : HasEdge g.space parent node
  pub inside : IsInside g.space node
  pub reached : cost_at w parent < FAR
  pub paid : cost_at w parent + entry_cost g.space node ≤ cost
  pub less : cost < cost_at w node

-- an input pin's label is lowered, and its sink offered the way over it
pub record LowersPin (g : Ground) (old new : Wave) (pin cost : ℕ) : Type 0 where
  pub spreads : Spreads g old new
  pub at : cost_at new pin ≤ cost

-- what a group's tap gives: the pin's sink, and edges to the pin from the tracks that are tapped
pub record IsTapOf (g : Ground) (group : ℕ) (tap : Tap) : Type 0 where
  pub pin : IsPinOf g.space.device tap.sink tap.pin
  pub edges : (j : ℕ) → IsOn (groups_of g) (on_track group j) → bit_at tap.tracks j ≡ 1 → HasEdge g.space (wire_on (groups_of g) (on_track group j)) tap.pin

-- an input pin that taps tracks of an entry was offered the way from them
abbrev pub TookTap : Ground → Wave → Waiting → Tap → Type 0
TookTap g w e t = (j : ℕ) → bit_at e.tracks j ≡ 1 → bit_at t.tracks j ≡ 1 → IsInside g.space t.pin → WentOn g w e.label t.pin

-- an entry has a track, and no track of it has a greater label
pub record IsLive (g : Ground) (w : Wave) (e : Waiting) : Type 0 where
  pub tracks : AreTracks g e
  pub labels : (j : ℕ) → bit_at e.tracks j ≡ 1 → cost_at w (wire_on (groups_of g) (on_track e.group j)) ≤ e.label
  pub some : (j : ℕ) × (bit_at e.tracks j ≡ 1)

-- an entry is out of the queue, to go on from its tracks: they are of this group, and its label
-- fits
pub record IsOut (g : Ground) (w : Wave) (e : Waiting) (greatest : ℕ) (is : Group) : Type 0 where
  pub ground : IsGround g
  pub wave : IsWave g w
  pub group : is ≡ group_at (groups_of g) e.group
  pub small : is.base + 64 * is.stride < 2 ^ 30
  pub live : IsLive g w e
  pub fits : e.label < greatest

-- those tracks of an entry of this group that still have its label
pub record AreTracksLeft (w : Wave) (is : Group) (e : Waiting) (tracks : ℕ) : Type 0 where
  pub of : (j : ℕ) → bit_at tracks j ≡ 1 → bit_at e.tracks j ≡ 1
  pub labels : (j : ℕ) → bit_at tracks j ≡ 1 → cost_at w (node_on is j) ≡ e.label
  pub all : (j : ℕ) → bit_at e.tracks j ≡ 1 → cost_at w (node_on is j) ≡ e.label → bit_at tracks j ≡ 1

-- each input pin that taps tracks of an entry was offered the way from them, but the last ones
abbrev pub TookTaps : Ground → Wave → Waiting → List Tap → ℕ → Type 0
TookTaps g w e taps i = (k : ℕ) (d : Tap) → k < i → k < length taps → TookTap g w e (get_or taps k d)

-- the wires of a neighbour were offered the way from tracks of an entry
abbrev pub TookWires : Ground → Wave → Waiting → ℕ → Type 0
TookWires g w e h = (j : ℕ) → bit_at e.tracks j ≡ 1 → IsInside g.space (wire_beside (groups_of g) j h) → WentOn g w e.label (wire_beside (groups_of g) j h)

-- so they were, or at least as many wires lead on from it as from them
abbrev pub TookNearer : Ground → Wave → Waiting → (wires h : ℕ) → Type 0
TookNearer g w e wires h = TookWires g w e h ⊎ IsLow w.boxes (wire_of (group_at (groups_of g) h)) wires

-- an entry that was taken out is done with: nothing is owed to its tracks any more
pub record Settles (g : Ground) (old new : Wave) : Type 0 where
  pub wave : IsWave g new
  pub complete : IsComplete g new
  pub origins : SameOrigins old new
  pub best : IsBest g old → IsBest g new
  pub boxes : new.boxes ≡ old.boxes

-- and there is less to do
pub record GoesOn (g : Ground) (old new : Wave) (e : Waiting) : Type 0 where
  pub settles : Settles g old new
  pub work : work_of new + 1 ≤ work_of old + weight_of e

-- the wires of the neighbours before place i were offered the way from tracks of an entry
abbrev pub TookBefore : Ground → Wave → Waiting → List ℕ → ℕ → Type 0
TookBefore g w e hs i = (k : ℕ) → k < i → k < length hs → TookWires g w e (get_or hs k 0)

-- so were those of the neighbours before place i, but for those whose bits are 1
pub record TookBut (g : Ground) (w : Wave) (e : Waiting) (hs : List ℕ) (i bits : ℕ) : Type 0 where
  pub among : (k : ℕ) → bit_at bits k ≡ 1 → k < i
  pub took : (k : ℕ) → k < i → k < length hs → bit_at bits k ≡ 0 → TookWires g w e (get_or hs k 0)

-- or at least as many wires lead on from the neighbour
abbrev pub TookNearerBefore : Ground → Wave → Waiting → (wires : ℕ) → List ℕ → ℕ → Type 0
TookNearerBefore g w e wires hs i = (k : ℕ) → k < i → k < length hs → TookNearer g w e wires (get_or hs k 0)

-- the input pins were offered the way from tracks of an entry, or another wire leads on at least
abbrev pub TookPins : Ground → Wave → Waiting → (wires : ℕ) → Type 0
TookPins g w e wires = (1 ≤ wires) ⊎ TookTaps g w e (taps_of g.tables e.group) (length (taps_of g.tables e.group))

-- an entry waits anew, whole, by a key that this many wires and a pin may add to its label
pub record WaitsAgain (old new : Wave) (e : Waiting) (wires : ℕ) : Type 0 where
  pub entry : Waiting
  pub pushed : IsPushed old new entry
  pub low : entry.key ≤ e.label + left_over wires
  pub label : entry.label ≡ e.label
  pub group : entry.group ≡ e.group
  pub tracks : entry.tracks ≡ e.tracks
  pub first : entry.begun ≡ false

-- a sink that the wave has yet to take, at the least cost
pub record IsNearest (g : Ground) (w : Wave) (sink : ℕ) : Type 0 where
  pub «open» : IsOpen g w sink
  pub at : cost_at w sink ≡ w.best

-- the wave starts at these nodes too
pub record IsStarted (g : Ground) (old new : Wave) (nodes : List ℕ) : Type 0 where
  pub wave : IsWave g new
  pub complete : IsComplete g new
  pub origins : (v : ℕ) → IsOrigin new v ↔ (IsOrigin old v ⊎ Contains nodes v)

-- the nodes of a way to a sink of the net
pub record LeadsToSink (g : Ground) (way : List ℕ) : Type 0 where
  pub from : ℕ
  pub sink : ℕ
  pub walk : IsWay g.space from way sink
  pub wanted : IsWanted g.space sink
