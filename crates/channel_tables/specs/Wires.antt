-- The tracks of a channel and the wires in them (this project's profile; the subject is that of
-- Betz, Rose and Marquardt 1999, "segmented routing").
use Rattle.std.specs.Prelude.{ℕ, ◌+◌, ◌-◌, ◌*◌, ◌%◌, ◌==◌, Bool, ◌||◌, ◌&&◌, false, max, nat_lt, nat_le, if◌then◌else◌, List, length, take, slice_get, Option, Some, None}
use Rattle.std.specs.List.{sum_by, position_or_len, range_with_len, filter}
use Rattle.arch_file.specs.declared.entries.Segment.{Segment}
use Rattle.arch_file.specs.declared.entries.SegmentLength.{SegmentLength}
use Rattle.arch_file.specs.declared.entries.SegmentLength.TheVariants.{Places, Longline}
use Rattle.channel_tables.specs.declared.node.Mode.{Mode}
use Rattle.channel_tables.specs.declared.node.Mode.TheVariants.{Detailed, Global}
use Rattle.channel_tables.specs.declared.node.Kind.{Kind}
use Rattle.channel_tables.specs.declared.node.Kind.TheVariants.{Chanx, Chany}
use Rattle.channel_tables.specs.declared.node.Node.{Node}
use Rattle.channel_tables.specs.Fabric.{Fabric, numbers_below}

-- tracks in each channel: a global device has one, which represents all
abbrev pub tracks_in : Mode → ℕ → ℕ
tracks_in Detailed width = width
tracks_in Global width = 1

-- the frequencies of all types together
abbrev pub total_frequency : List Segment → ℕ
total_frequency segments = sum_by (λ s. s.frequency) segments

-- the weight of a type of wire: its frequency, or 1 where all frequencies are 0
abbrev pub weight_in : List Segment → Segment → ℕ
weight_in segments s = if total_frequency segments == 0 then 1 else s.frequency

-- the weight of the first n types together
unfoldable pub weight_of_first : List Segment → ℕ → ℕ
weight_of_first segments n = sum_by (weight_in segments) (take n segments)

-- the part of the channel that the types up to s take, by weight, ends past the middle of the track
abbrev pub reaches : List Segment → (width track s : ℕ) → Bool
reaches segments width track s =
    nat_lt ((2 * track + 1) * weight_of_first segments (length segments)) (2 * width * weight_of_first segments (s + 1))

-- the type of a track: the first that reaches it
unfoldable pub type_of : List Segment → (width track : ℕ) → ℕ
type_of segments width track = position_or_len (reaches segments width track) (numbers_below (length segments))

-- that of a track of a device
abbrev pub track_type : Fabric → (track : ℕ) → ℕ
track_type f track = type_of f.architecture.segments f.width track

-- a track's rank among the tracks of its type, which lie side by side
unfoldable pub rank_of : List Segment → (width track : ℕ) → ℕ
rank_of segments width track =
    track - position_or_len (λ t. type_of segments width t == type_of segments width track) (numbers_below width)

-- how many places a wire of a type passes in a channel of n places
abbrev pub places_of_length : ℕ → SegmentLength → ℕ
places_of_length n (Places k) = k
places_of_length n Longline = n

-- how many places a wire of this type passes in a channel of n places; 1 for no type, but each
-- track has one
abbrev pub places_of_type : ℕ → Option Segment → ℕ
places_of_type n (Some s) = places_of_length n s.length
places_of_type n None = 1

abbrev pub length_by : Mode → List Segment → (width n track : ℕ) → ℕ
length_by Detailed segments width n track = places_of_type n (slice_get segments (type_of segments width track))
length_by Global segments width n track = 1

-- how many places the wires of a track pass in a channel of n places; in a global device 1
unfoldable pub length_of : Fabric → (n track : ℕ) → ℕ
length_of f n track = length_by f.mode f.architecture.segments f.width n track

-- how many places the wires of a track pass at most, in either direction
unfoldable pub reach_of : Fabric → (track : ℕ) → ℕ
reach_of f track = max (length_of f f.nx track) (length_of f f.ny track)

-- a wire of the track begins at a place of a channel of n places, which are counted from 1: at the
-- first place, and at every place that is a whole number of wires away, shifted by the track's rank
unfoldable pub begins : Fabric → (n track place : ℕ) → Bool
begins f n track place = place == 1 || (place - 1 + rank_of f.architecture.segments f.width track) % length_of f n track == 0

-- how many places a wire goes on after the place where it begins: up to the next beginning, or the
-- channel's end
unfoldable pub steps_of : Fabric → (n track place : ℕ) → ℕ
steps_of f n track place = position_or_len (begins f n track) (range_with_len (place + 1) (n - place))

-- the place where the wire that begins at a place ends
abbrev pub last_of : Fabric → (n track place : ℕ) → ℕ
last_of f n track place = place + steps_of f n track place

-- the places of the wire that begins at a place, in order
abbrev pub places_of : Fabric → (n track place : ℕ) → List ℕ
places_of f n track place = range_with_len place (steps_of f n track place + 1)

-- the wire runs through a place of its channel
abbrev pub runs_by : Kind → Kind → Fabric → Node → (x y : ℕ) → Bool
runs_by Chanx Chanx f n x y = n.y == y && (nat_le n.x x && nat_le x (last_of f f.nx n.number n.x))
runs_by Chany Chany f n x y = n.x == x && (nat_le n.y y && nat_le y (last_of f f.ny n.number n.y))
runs_by _ _ f n x y = false

-- a channel's place: its kind, Chanx above a row or Chany right of a column, and where it lies
abbrev pub Place : Type 0
Place = Kind × ℕ × ℕ

-- the wire of the node runs through that place of that channel
unfoldable pub runs_through : Fabric → Node → Place → Bool
runs_through f n p = runs_by n.kind p.0 f n p.1 p.2

-- the tracks with a wire that begins at a place of a channel
abbrev pub beginnings_at : Fabric → (n place : ℕ) → List ℕ
beginnings_at f n place = filter (λ t. begins f n t place) (numbers_below (tracks_in f.mode f.width))
