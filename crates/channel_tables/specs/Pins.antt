-- The pins of logic blocks and pads, and the tracks that they tap (VPR and T-VPack manual 4.30,
-- "Fc"; which tracks a pin taps is this project's choice).
use Rattle.std.specs.Prelude.{ℕ, ◌+◌, ◌-◌, ◌*◌, ◌/◌, ◌%◌, ◌==◌, Bool, ◌&&◌, not, true, false, min, max, if◌then◌else◌, List, [], ◌∷◌, ◌++◌, length, map, slice_get, Option, Some, None, ◌≡◌}
use Rattle.std.specs.List.{list_any, filter}
use Rattle.std.specs.Option.{option_map}
use Rattle.arch_file.specs.Architecture.{Architecture, class_count, class_direction}
use Rattle.arch_file.specs.declared.entries.Direction.{Direction}
use Rattle.arch_file.specs.declared.entries.Direction.TheVariants.{Input, Output}
use Rattle.arch_file.specs.declared.entries.FcType.{FcType}
use Rattle.arch_file.specs.declared.entries.FcType.TheVariants.{Absolute, Fractional}
use Rattle.arch_file.specs.declared.entries.Pin.{Pin}
use Rattle.channel_tables.specs.declared.node.Mode.{Mode}
use Rattle.channel_tables.specs.declared.node.Mode.TheVariants.{Detailed, Global}
use Rattle.channel_tables.specs.declared.node.Kind.{Kind}
use Rattle.channel_tables.specs.declared.node.Kind.TheVariants.{Opin, Chanx, Chany}
use Rattle.channel_tables.specs.declared.node.Node.{Node}
use Rattle.channel_tables.specs.Fabric.{Fabric, numbers_below, is_block}
use Rattle.channel_tables.specs.Wires.{Place, runs_through}
use Rattle.channel_tables.specs.declared.tap_counts.TapCounts.{TapCounts}

-- the direction found is the one wanted
abbrev pub has_direction : Direction → Option Direction → Bool
has_direction Input (Some Input) = true
has_direction Output (Some Output) = true
has_direction _ _ = false

-- the classes of a direction, ascending
unfoldable pub classes_of : Architecture → Direction → List ℕ
classes_of a d = filter (λ c. has_direction d (class_direction a c)) (numbers_below (class_count a))

-- the pins of a direction, ascending
unfoldable pub pins_of : Architecture → Direction → List ℕ
pins_of a d = filter (λ p. has_direction d (option_map (λ q. q.direction) (slice_get a.pins p))) (numbers_below (length a.pins))

-- Fc is in units of 10^-9, of a track or of the channel's tracks
abbrev pub fc_tracks : FcType → (fc width : ℕ) → ℕ
fc_tracks Absolute fc width = fc
fc_tracks Fractional fc width = fc * width

-- how many tracks of each channel a pin taps: rounded half up, at least 1, at most all
abbrev pub tap_count : FcType → (fc width : ℕ) → ℕ
tap_count t fc width = max 1 (min width ((fc_tracks t fc width + 500000000) / 1000000000))

-- the tracks that pin p taps by Fc, spread evenly and shifted by the pin's number; in a global
-- device the one track
abbrev pub tracks_by : Mode → (count width p : ℕ) → List ℕ
tracks_by Detailed count width p = map (λ i. (p + (i * width) / count) % width) (numbers_below count)
tracks_by Global count width p = 0 ∷ []

unfoldable pub tapped_tracks : Fabric → (fc p : ℕ) → List ℕ
tapped_tracks f fc p = tracks_by f.mode (tap_count f.architecture.fc_type fc f.width) f.width p

-- Fc of a block's output and input pins
abbrev pub fc_by : Kind → Architecture → ℕ
fc_by Opin a = a.fc_output
fc_by _ a = a.fc_input

-- Fc of a node of kind Opin or Ipin
abbrev pub fc_at : Fabric → Node → ℕ
fc_at f pin = if is_block f pin.x pin.y then fc_by pin.kind f.architecture else f.architecture.fc_pad

-- a list of one element, or none
abbrev pub when : {X : Type 0} → Bool → X → List X
when b x = if b then x ∷ [] else []

-- the channels on a block's sides where the pin is reached
abbrev pub channels_of_pin : Option Pin → (x y : ℕ) → List Place
channels_of_pin (Some p) x y =
    when p.sides.top (Chanx, x, y) ++ (when p.sides.bottom (Chanx, x, y - 1) ++ (when p.sides.right (Chany, x, y) ++ when p.sides.left (Chany, x - 1, y)))
channels_of_pin None x y = []

-- the channel beside a pad: the one between its place and the array
abbrev pub channel_of_pad : Fabric → (x y : ℕ) → Place
channel_of_pad f x y =
    if x == 0 then (Chany, 0, y) else (if x == f.nx + 1 then (Chany, f.nx, y) else (if y == 0 then (Chanx, x, 0) else (Chanx, x, f.ny)))

-- the channels' places next to a node of kind Opin or Ipin
unfoldable pub channels_beside : Fabric → Node → List Place
channels_beside f pin =
    if is_block f pin.x pin.y then channels_of_pin (slice_get f.architecture.pins pin.number) pin.x pin.y
    else channel_of_pad f pin.x pin.y ∷ []

abbrev pub is_marked_global : Option Pin → Bool
is_marked_global (Some p) = p.global
is_marked_global None = false

-- the pin has a dedicated network, and taps nothing
abbrev pub is_global_pin : Fabric → Node → Bool
is_global_pin f pin = is_block f pin.x pin.y && is_marked_global (slice_get f.architecture.pins pin.number)

-- the pin taps the wire: one of its channels has the wire, on a track that it taps
unfoldable pub taps : Fabric → (pin wire : Node) → Bool
taps f pin wire =
    not (is_global_pin f pin) && (list_any (runs_through f wire) (channels_beside f pin) && list_any (λ t. t == wire.number) (tapped_tracks f (fc_at f pin) pin.number))

abbrev pub has_class : Option Pin → ℕ → Bool
has_class (Some p) class = p.class == class
has_class None class = false

-- the pin is of the terminal, a node of kind Source or Sink: of its class at a block, of its
-- position at a pad
unfoldable pub belongs : Fabric → (pin terminal : Node) → Bool
belongs f pin terminal =
    (pin.x == terminal.x && pin.y == terminal.y) && (if is_block f pin.x pin.y then has_class (slice_get f.architecture.pins pin.number) terminal.number else pin.number == terminal.number)

-- how many tracks a pin of each kind taps
pub record IsTapCounts (f : Fabric) (t : TapCounts) : Type 0 where
  pub output : t.output ≡ tap_count f.architecture.fc_type f.architecture.fc_output f.width
  pub input : t.input ≡ tap_count f.architecture.fc_type f.architecture.fc_input f.width
  pub pad : t.pad ≡ tap_count f.architecture.fc_type f.architecture.fc_pad f.width
