-- The places of sources, sinks and pins, and how an output pin reaches wires.
use Rattle.std.specs.Prelude.{◌≡◌, ℕ, ◌+◌, ◌-◌, ◌≤◌, ◌<◌, ◌==◌, false, true, if◌then◌else◌, List, [], ◌++◌, slice_get, option_and_then, Option, Some, None}
use Rattle.std.specs.List.{flat_map}
use Rattle.std.specs.Option.{option_map}
use Rattle.arch_file.specs.declared.entries.Sides.{Sides}
use Rattle.arch_file.specs.declared.entries.Pin.{Pin}
use Rattle.channel_tables.specs.declared.node.Node.{Node}
use Rattle.rr_edges.specs.declared.opins.Tapper.{Tapper}
use Rattle.channel_tables.specs.declared.node.Kind.TheVariants.{Sink}
use Rattle.channel_tables.specs.declared.axis.Axis.{Axis}
use Rattle.channel_tables.specs.declared.axis.Axis.TheVariants.{Row}
use Rattle.channel_tables.specs.Axes.{places_along}
use Rattle.channel_tables.specs.Fabric.{Fabric, numbers_below, is_block, is_pad, most_tracks}
use Rattle.channel_tables.specs.Wires.{tracks_in}
use Rattle.channel_tables.specs.Pins.{tap_count, when}
use Rattle.node_numbers.specs.Nodes.{node_of, number_of}
use Rattle.channel_tables.specs.Channels.{first_of}
use Rattle.rr_edges.specs.kept.Channels.{wire_along}
use Rattle.rr_edges.specs.kept.PinSuccessors.{taps_track, tapped_chanx, tapped_rows, tapped_column}

-- a node that is no wire may be at (x, y) with this number
pub record IsTerminal (f : Fabric) (x y number : ℕ) : Type 0 where
  pub column : x ≤ f.nx + 1
  pub row : y ≤ f.ny + 1
  pub small : number < 256
  pub around : is_block f x y ≡ false → is_pad f x y ≡ true

-- what the sink of an input pin, a node of kind Ipin, is numbered by: the pin's class at a block,
-- its position at a pad
abbrev pub sink_label : Fabric → Node → Option ℕ
sink_label f pin = if is_block f pin.x pin.y then option_map (λ p. p.class) (slice_get f.architecture.pins pin.number) else Some pin.number

-- the sink of that number at the pin's place
abbrev pub sink_beside : Fabric → Node → Option ℕ
sink_beside f pin = option_and_then (λ number. number_of f (node_of Sink pin.x pin.y number)) (sink_label f pin)

-- count is how many tracks a pin taps by Fc
pub record IsTapper (f : Fabric) (t : Tapper) : Type 0 where
  pub count : t.count ≡ tap_count f.architecture.fc_type t.fc f.width
  pub some : 1 ≤ t.count
  pub few : t.count ≤ most_tracks

-- a track's wire through a place of a channel along an axis, if the pin taps the track
abbrev pub tapped_wire : Axis → Fabric → (fc pin place channel track : ℕ) → List ℕ
tapped_wire axis f fc pin place channel track =
    when (taps_track f fc pin track) (wire_along axis f track channel (first_of f (places_along axis f) track place))

abbrev pub all_tracks : Fabric → List ℕ
all_tracks f = numbers_below (tracks_in f.mode f.width)

-- those that begin at place first above the row before, and above the row
abbrev pub rows_piece : Fabric → (fc pin column row : ℕ) → Sides → (first : ℕ) → List ℕ
rows_piece f fc pin column row s first =
    (if s.bottom then tapped_chanx f fc pin column (row - 1) first else []) ++ (if s.top then tapped_chanx f fc pin column row first else [])

-- those of the tracks through a column, above the row before and above the row
abbrev pub rows_of_tracks : Fabric → (fc pin column row : ℕ) → Sides → (tracks : List ℕ) → List ℕ
rows_of_tracks f fc pin column row s tracks =
    (if s.bottom then flat_map (tapped_wire Row f fc pin column (row - 1)) tracks else [])
    ++ (if s.top then flat_map (tapped_wire Row f fc pin column row) tracks else [])

-- the wires that an output pin reached on these sides of (x, y) taps
abbrev pub wires_on : Fabric → (fc pin x y : ℕ) → Sides → List ℕ
wires_on f fc pin x y s =
    tapped_rows f fc pin x y s.bottom s.top
    ++ ((if s.left then tapped_column f fc pin (x - 1) y else []) ++ (if s.right then tapped_column f fc pin x y else []))

-- the channels on these sides are of the device
pub record AreSides (f : Fabric) (x y : ℕ) (s : Sides) : Type 0 where
  pub bottom : s.bottom ≡ true → (1 ≤ x) × (x ≤ f.nx) × (y ≤ f.ny + 1)
  pub top : s.top ≡ true → (1 ≤ x) × (x ≤ f.nx) × (y ≤ f.ny)
  pub left : s.left ≡ true → (x ≤ f.nx + 1) × (1 ≤ y) × (y ≤ f.ny)
  pub right : s.right ≡ true → (x ≤ f.nx) × (1 ≤ y) × (y ≤ f.ny)

abbrev pub no_sides : Sides
no_sides = record { top = false; bottom = false; left = false; right = false }

-- the sides on which an output pin of a block is reached; none if it has a dedicated network
abbrev pub sides_of_pin : Option Pin → Sides
sides_of_pin (Some p) = if p.global then no_sides else p.sides
sides_of_pin None = no_sides

-- the side of a place of the perimeter on which there is a channel
abbrev pub sides_of_pad : Fabric → (x y : ℕ) → Sides
sides_of_pad f x y =
    if x == 0 then record { top = false; bottom = false; left = false; right = true }
    else (if x == f.nx + 1 then record { top = false; bottom = false; left = true; right = false }
    else (if y == 0 then record { top = true; bottom = false; left = false; right = false }
    else record { top = false; bottom = true; left = false; right = false }))

-- of an output pin, a node of kind Opin
abbrev pub opin_sides : Fabric → Node → Sides
opin_sides f a = if is_block f a.x a.y then sides_of_pin (slice_get f.architecture.pins a.number) else sides_of_pad f a.x a.y

abbrev pub opin_fc : Fabric → Node → ℕ
opin_fc f a = if is_block f a.x a.y then f.architecture.fc_output else f.architecture.fc_pad
