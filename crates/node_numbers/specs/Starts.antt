-- How many nodes come before those of a kind, of a column and of a place.
use Rattle.std.specs.Prelude.{ℕ, ◌+◌, length}
use Rattle.std.specs.List.{flat_map}
use Rattle.channel_tables.specs.declared.node.Kind.{Kind}
use Rattle.channel_tables.specs.declared.node.Kind.TheVariants.{Source, Sink, Opin, Ipin, Chanx, Chany}
use Rattle.channel_tables.specs.Fabric.{Fabric, numbers_below}
use Rattle.node_numbers.specs.Nodes.{nodes_at, nodes_of_column, nodes_of_kind}

abbrev pub kind_length : Fabric → Kind → ℕ
kind_length f k = length (nodes_of_kind f k)

-- how many nodes come before those of a kind
unfoldable pub kind_start : Fabric → Kind → ℕ
kind_start f Source = 0
kind_start f Sink = kind_length f Source
kind_start f Opin = kind_length f Source + kind_length f Sink
kind_start f Ipin = kind_length f Source + kind_length f Sink + kind_length f Opin
kind_start f Chanx = kind_length f Source + kind_length f Sink + kind_length f Opin + kind_length f Ipin
kind_start f Chany = kind_length f Source + kind_length f Sink + kind_length f Opin + kind_length f Ipin + kind_length f Chanx

-- before those of a kind in a column
unfoldable pub column_start : Fabric → Kind → ℕ → ℕ
column_start f k x = kind_start f k + length (flat_map (nodes_of_column f k) (numbers_below x))

-- before those of a kind at a place
unfoldable pub place_start : Fabric → Kind → (x y : ℕ) → ℕ
place_start f k x y = column_start f k x + length (flat_map (nodes_at f k x) (numbers_below y))
