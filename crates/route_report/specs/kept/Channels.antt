-- Where wires lie along channels, and how full the channels are by the first nodes.
use Rattle.std.specs.Prelude.{◌≡◌, ℕ, ◌+◌, ◌<◌, ◌≤◌, ◌^◌, ◌==◌, Bool, ◌&&◌, nat_le, if◌then◌else◌, List, [], length, map, get_or, Option, Some, None}
use Rattle.std.specs.List.{sum_by}
use Rattle.routing_problem.specs.node.Kind.{Kind}
use Rattle.routing_problem.specs.node.Kind.TheVariants.{Chanx, Chany}
use Rattle.routing_problem.specs.node.Span.{Span}
use Rattle.routing_problem.specs.Fabric.{Fabric, numbers_below}
use Rattle.route_report.specs.declared.occupancy.Stretch.{Stretch}
use Rattle.route_report.specs.declared.channels.ChannelUse.TheInside as channel
use Rattle.route_report.specs.Channels.{Channel, channel_with, occupies, place_in}

abbrev pub channel_inside : channel.Inside → Channel
channel_inside c = record {
  kind = c.kind;
  number = c.number;
  occupied = c.occupied.items;
  most = c.most;
  total = c.total;
}

-- where a wire of the first kind lies, if that is the second
abbrev pub stretch_by : Kind → Kind → Span → Option Stretch
stretch_by Chanx Chanx s = Some (record { channel = s.y1; first = s.x1; last = s.x2 })
stretch_by Chany Chany s = Some (record { channel = s.x1; first = s.y1; last = s.y2 })
stretch_by _ _ s = None

-- where a wire lies, if it is one of this kind
abbrev pub stretch_in : Kind → Option (Kind × Span × ℕ) → Option Stretch
stretch_in k (Some w) = stretch_by w.0 k w.1
stretch_in k None = None

-- the stretch goes through place m of its channel
abbrev pub goes_through : Stretch → ℕ → Bool
goes_through s m = nat_le s.first (m + 1) && nat_le (m + 1) s.last

-- the number at each place grew by this much
pub record Adds (old : List ℕ) (by : ℕ → ℕ) (new : List ℕ) : Type 0 where
  pub size : length new ≡ length old
  pub each : (m : ℕ) → m < length old → get_or new m 0 ≡ get_or old m 0 + by m

-- what a stretch adds to the places of its channel
abbrev pub along : Stretch → (by : ℕ) → ℕ → ℕ
along s by m = if goes_through s m then by else 0

-- what it adds to those of channel c
abbrev pub across : Option Stretch → (by c m : ℕ) → ℕ
across (Some s) by c m = if s.channel == c then along s by m else 0
across None by c m = 0

-- each channel's places grew so
pub record AddsAll (old : List (List ℕ)) (by : ℕ → ℕ → ℕ) (new : List (List ℕ)) : Type 0 where
  pub size : length new ≡ length old
  pub each : (c : ℕ) → c < length old → Adds (get_or old c []) (by c) (get_or new c [])

-- the occupancy of each place of the channels of a kind, by the first nodes
pub record IsOccupied (f : Fabric) (uses : List ℕ) (k : Kind) (n count nodes : ℕ) (table : List (List ℕ)) : Type 0 where
  pub size : length table ≡ count
  pub rows : (c : ℕ) → c < count → length (get_or table c []) ≡ n
  pub each : (c m : ℕ) → c < count → m < n → get_or (get_or table c []) m 0 ≡ sum_by (occupies f uses (place_in k c m)) (numbers_below nodes)

-- channels of few places, and small numbers at these
pub record AreSmall (channels : List (List ℕ)) : Type 0 where
  pub rows : (c : ℕ) → length (get_or channels c []) ≤ 65535
  pub each : (c m : ℕ) → get_or (get_or channels c []) m 0 ≤ 2 ^ 40

-- this many channels of a kind with these places, by number
abbrev pub numbered : Kind → List (List ℕ) → (count : ℕ) → List Channel
numbered k channels count = map (λ c. channel_with k c (get_or channels c [])) (numbers_below count)
