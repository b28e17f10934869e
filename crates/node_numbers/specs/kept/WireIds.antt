-- The numbers of wires.
use Rattle.std.specs.Prelude.{ℕ, ◌+◌, length}
use Rattle.std.specs.List.{filter}
use Rattle.channel_tables.specs.declared.node.Kind.{Kind}
use Rattle.channel_tables.specs.declared.node.Kind.TheVariants.{Chanx, Chany}
use Rattle.channel_tables.specs.Fabric.{Fabric, numbers_below}
use Rattle.channel_tables.specs.Wires.{begins}
use Rattle.node_numbers.specs.Starts.{place_start}

-- how many tracks below a track have a wire that begins at a place of a channel of n places
abbrev pub beginnings_below : Fabric → (n place track : ℕ) → ℕ
beginnings_below f n place track = length (filter (λ s. begins f n s place) (numbers_below track))

-- the number of the node of the wire of a track that begins at (x, y) (of the first node there, if
-- that is no wire)
unfoldable pub wire_id : Fabric → Kind → (x y track : ℕ) → ℕ
wire_id f Chanx x y track = place_start f Chanx x y + beginnings_below f f.nx x track
wire_id f Chany x y track = place_start f Chany x y + beginnings_below f f.ny y track
wire_id f k x y track = place_start f k x y
