-- The wires of a channel: where they begin, their order, and which wire of a track runs through a
-- place.
use Rattle.std.specs.Prelude.{ℕ, ◌+◌, ◌-◌, ◌==◌, if◌then◌else◌, List, [], length, map}
use Rattle.std.specs.List.{position_or_len, range_with_len, flat_map, filter}
use Rattle.channel_tables.specs.Fabric.{Fabric, numbers_below, is_between}
use Rattle.channel_tables.specs.Wires.{begins, tracks_in, last_of, beginnings_at}
use Rattle.channel_tables.specs.declared.channel.Beginning.{Beginning}
use Rattle.channel_tables.specs.declared.channel.Wire.{Wire}

-- the place where the wire of a track that runs through a place begins: the last beginning up to it
unfoldable pub first_of : Fabric → (n track place : ℕ) → ℕ
first_of f n track place = place - position_or_len (λ back. begins f n track (place - back)) (numbers_below place)

-- the tracks with a wire that begins at a place of a channel of n places; none where the channel
-- has no such place
abbrev pub starting_at : Fabric → (n place : ℕ) → List ℕ
starting_at f n place = if is_between 1 n place then beginnings_at f n place else []

-- how many wires begin before a place
unfoldable pub wires_before : Fabric → (n place : ℕ) → ℕ
wires_before f n place = length (flat_map (starting_at f n) (numbers_below place))

abbrev pub beginning_of : (place track : ℕ) → Beginning
beginning_of place track = record { place = place; track = track }

-- the wires of a channel in the order of first places and tracks, each as its beginning
unfoldable pub beginnings_of : Fabric → (n : ℕ) → List Beginning
beginnings_of f n = flat_map (λ place. map (beginning_of place) (starting_at f n place)) (numbers_below (n + 1))

-- how many wires of a channel come before the one that begins at a place in a track
unfoldable pub wire_number : Fabric → (n place track : ℕ) → ℕ
wire_number f n place track = wires_before f n place + length (filter (λ t. begins f n t place) (numbers_below track))

-- the wire of a track through a place
abbrev pub wire_at : Fabric → (n place track : ℕ) → Wire
wire_at f n place track =
    record { first = first_of f n track place; last = last_of f n track (first_of f n track place); number = wire_number f n (first_of f n track place) track }

-- the tracks whose wires through a place begin at place first
abbrev pub tracks_from : Fabric → (n place first : ℕ) → List ℕ
tracks_from f n place first = filter (λ t. first_of f n t place == first) (numbers_below (tracks_in f.mode f.width))

-- the tracks whose wires through a place begin at place first or after it, in the order of where
-- they begin
unfoldable pub tracks_since : Fabric → (n place first : ℕ) → List ℕ
tracks_since f n place first = flat_map (tracks_from f n place) (range_with_len first (place + 1 - first))

-- all tracks, in the order of where their wires through a place begin
abbrev pub tracks_through : Fabric → (n place : ℕ) → List ℕ
tracks_through f n place = tracks_since f n place 1
