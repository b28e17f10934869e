-- The successors of sources and of pins, as lists.
use Rattle.std.specs.Prelude.{ℕ, ◌+◌, ◌-◌, ◌==◌, Bool, ◌&&◌, nat_le, nat_lt, if◌then◌else◌, List, [], ◌∷◌, ◌++◌, length, slice_get, Option, Some, None}
use Rattle.std.specs.List.{list_any, range_with_len, filter, flat_map}
use Rattle.arch_file.specs.Architecture.{class_count, class_direction}
use Rattle.arch_file.specs.declared.entries.Direction.TheVariants.{Input, Output}
use Rattle.arch_file.specs.declared.entries.Pin.{Pin}
use Rattle.channel_tables.specs.declared.node.Kind.TheVariants.{Sink, Opin, Chanx, Chany}
use Rattle.channel_tables.specs.declared.node.Node.{Node}
use Rattle.channel_tables.specs.Fabric.{Fabric, numbers_below, is_block}
use Rattle.channel_tables.specs.Wires.{last_of, beginnings_at}
use Rattle.channel_tables.specs.Pins.{has_direction, pins_of, tapped_tracks, when, has_class}
use Rattle.channel_tables.specs.Picks.{picks}
use Rattle.node_numbers.specs.Starts.{place_start}

-- the output pins of a class of the block at (x, y)
unfoldable pub pins_of_source : Fabric → (x y class : ℕ) → List ℕ
pins_of_source f x y class = picks (λ p. has_class (slice_get f.architecture.pins p) class) (place_start f Opin x y) (pins_of f.architecture Output)

-- of a source, a node of kind Source: the pins of its class at a block, the pin of its position at
-- a pad
unfoldable pub source_successors : Fabric → Node → List ℕ
source_successors f a = if is_block f a.x a.y then pins_of_source f a.x a.y a.number else (place_start f Opin a.x a.y + a.number) ∷ []

-- the sink of a pin's class at the block at (x, y), which comes after those of the input classes
-- below
unfoldable pub sink_of_pin : Fabric → Option Pin → (x y : ℕ) → List ℕ
sink_of_pin f (Some p) x y =
    when (has_direction Input (class_direction f.architecture p.class) && nat_lt p.class (class_count f.architecture))
    (place_start f Sink x y + length (filter (λ c. has_direction Input (class_direction f.architecture c)) (numbers_below p.class)))
sink_of_pin f None x y = []

-- of an input pin, a node of kind Ipin: the sink of its class at a block, of its position at a pad
unfoldable pub ipin_successors : Fabric → Node → List ℕ
ipin_successors f a =
    if is_block f a.x a.y then sink_of_pin f (slice_get f.architecture.pins a.number) a.x a.y
    else (place_start f Sink a.x a.y + a.number) ∷ []

-- the pin taps the track, by Fc
abbrev pub taps_track : Fabric → (fc pin track : ℕ) → Bool
taps_track f fc pin track = list_any (λ t. t == track) (tapped_tracks f fc pin)

-- the wires above a row that begin at column first and run through a column, on tracks that the pin
-- taps
unfoldable pub tapped_chanx : Fabric → (fc pin column row first : ℕ) → List ℕ
tapped_chanx f fc pin column row first =
    picks (λ t. nat_le column (last_of f f.nx t first) && taps_track f fc pin t) (place_start f Chanx first row) (beginnings_at f f.nx first)

-- the wires right of a column that begin at row first and run through a row, on tracks that the pin
-- taps
unfoldable pub tapped_chany : Fabric → (fc pin column row first : ℕ) → List ℕ
tapped_chany f fc pin column row first =
    picks (λ t. nat_le row (last_of f f.ny t first) && taps_track f fc pin t) (place_start f Chany column first) (beginnings_at f f.ny first)

-- all that run through a column, above a row
unfoldable pub tapped_row : Fabric → (fc pin column row : ℕ) → List ℕ
tapped_row f fc pin column row = flat_map (tapped_chanx f fc pin column row) (range_with_len 1 column)

-- all that run through a row, right of a column
unfoldable pub tapped_column : Fabric → (fc pin column row : ℕ) → List ℕ
tapped_column f fc pin column row = flat_map (tapped_chany f fc pin column row) (range_with_len 1 row)

-- all that run through a column, above the row before and above a row, in turn for each column
-- where they begin
unfoldable pub tapped_rows : Fabric → (fc pin column row : ℕ) → (bottom top : Bool) → List ℕ
tapped_rows f fc pin column row bottom top =
    flat_map (λ first. (if bottom then tapped_chanx f fc pin column (row - 1) first else [])
    ++ (if top then tapped_chanx f fc pin column row first else []))
    (range_with_len 1 column)

-- of an output pin of the block at (x, y): the wires that it taps
unfoldable pub wires_of_pin : Fabric → Option Pin → (pin x y : ℕ) → List ℕ
wires_of_pin f (Some p) pin x y =
    let fc = f.architecture.fc_output in
    let columns = (if p.sides.left then tapped_column f fc pin (x - 1) y else []) ++ (if p.sides.right then tapped_column f fc pin x y else []) in
    if p.global then [] else (tapped_rows f fc pin x y p.sides.bottom p.sides.top ++ columns)
wires_of_pin f None pin x y = []

-- of an input pad at (x, y): the wires that it taps
unfoldable pub wires_of_pad : Fabric → (pad x y : ℕ) → List ℕ
wires_of_pad f pad x y =
    let fc = f.architecture.fc_pad in
    if x == 0 then tapped_column f fc pad 0 y
    else (if x == f.nx + 1 then tapped_column f fc pad f.nx y else (if y == 0 then tapped_row f fc pad x 0 else tapped_row f fc pad x f.ny))

-- of an output pin, a node of kind Opin: the wires that it taps
unfoldable pub opin_successors : Fabric → Node → List ℕ
opin_successors f a =
    if is_block f a.x a.y then wires_of_pin f (slice_get f.architecture.pins a.number) a.number a.x a.y else wires_of_pad f a.number a.x a.y
