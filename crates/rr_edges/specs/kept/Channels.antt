-- Where wires of a track begin, if they meet at a corner of their channel or are next to a wire: at
-- most two each. The places of a channel are counted from 1 to n; corner c lies between the places
-- c and c + 1, so 0 and n are the ends.
use Rattle.std.specs.Prelude.{ℕ, ◌+◌, ◌-◌, ◌==◌, Bool, ◌&&◌, not, nat_le, nat_lt, if◌then◌else◌, List, [], ◌∷◌, ◌++◌}
use Rattle.channel_tables.specs.declared.axis.Axis.{Axis}
use Rattle.channel_tables.specs.declared.axis.Axis.TheVariants.{Row, Column}
use Rattle.channel_tables.specs.declared.node.Kind.TheVariants.{Chanx, Chany}
use Rattle.channel_tables.specs.Fabric.{Fabric}
use Rattle.channel_tables.specs.Channels.{first_of}
use Rattle.node_numbers.specs.kept.WireIds.{wire_id}

-- the number of the wire of a track that begins at a place of a channel along an axis; channels are
-- counted from 0
abbrev pub wire_along : Axis → Fabric → (track channel place : ℕ) → ℕ
wire_along Row f track channel place = wire_id f Chanx place channel track
wire_along Column f track channel place = wire_id f Chany channel place track

-- the places where the wires that touch corner c begin, ascending
unfoldable pub meeting_of : Fabric → (n track corner : ℕ) → List ℕ
meeting_of f n track c =
    if c == 0 then first_of f n track 1 ∷ []
    else (if nat_le n c then first_of f n track n ∷ []
    else (if first_of f n track c == first_of f n track (c + 1) then first_of f n track c ∷ [] else first_of f n track c ∷ first_of f n track (c + 1) ∷ []))

-- the places where the wires next to the wire from first to last begin, ascending: the one that
-- ends just before it, and the one that begins just after it
unfoldable pub beside_of : Fabric → (n track first last : ℕ) → List ℕ
beside_of f n track first last =
    (if nat_lt 1 first then first_of f n track (first - 1) ∷ [] else []) ++ (if nat_lt last n then (last + 1) ∷ [] else [])

-- two wires of one track of a channel, given by their first and last places, are different and
-- touch a common corner
abbrev pub is_next_to : (first last other other_last : ℕ) → Bool
is_next_to first last other other_last = not (other == first) && (nat_le other (last + 1) && nat_le first (other_last + 1))

-- a wire, given by its first and last places, touches a corner of its channel
abbrev pub passes_corner : (first last corner : ℕ) → Bool
passes_corner first last corner = nat_le first (corner + 1) && nat_le corner last
