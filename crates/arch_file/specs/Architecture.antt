-- An architecture as the record of its entries (VPR and T-VPack manual 4.30, "The Architecture File
-- Format").
use Rattle.std.specs.Prelude.{◌≡◌, ℕ, ◌+◌, ◌<◌, ◌≤◌, ◌==◌, List, length, max, fold, find, count_by, Option, Some, All}
use Rattle.std.specs.Option.{option_map}
use Rattle.arch_file.specs.declared.arch.TheConstants.{LONGEST_SIDE}
use Rattle.arch_file.specs.declared.entries.Direction.{Direction}
use Rattle.arch_file.specs.declared.entries.Pin.{Pin}
use Rattle.arch_file.specs.declared.entries.FcType.{FcType}
use Rattle.arch_file.specs.declared.entries.Segment.{Segment}
use Rattle.arch_file.specs.declared.entries.SegmentLength.{SegmentLength}
use Rattle.arch_file.specs.declared.entries.SegmentLength.TheVariants.{Places, Longline}
use Rattle.arch_file.specs.declared.entries.Switch.{Switch}

pub record Architecture : Type 0 where
  -- pads at each place of the perimeter
  pub io_rat : ℕ
  -- the pins of a logic block, in the order of their lines
  pub pins : List Pin
  pub fc_type : FcType
  -- in units of 10^-9 tracks, or of 10^-9 of a channel's tracks
  pub fc_output : ℕ
  pub fc_input : ℕ
  pub fc_pad : ℕ
  -- the types of wire and the switches, in the order of their lines
  pub segments : List Segment
  pub switches : List Switch

-- the most pads at a place of the perimeter (this project's profile, like the next four)
abbrev pub most_pads : ℕ
most_pads = 16

-- the most pins of a block, and classes of them
abbrev pub most_pins : ℕ
most_pins = 64

-- the most types of wire
abbrev pub most_segments : ℕ
most_segments = 16

-- the most blocks that a wire passes where it doesn't pass all
abbrev pub longest_wire : ℕ
longest_wire = 16

-- the most columns, and the most rows, of logic blocks in an array
abbrev pub longest_side : ℕ
longest_side = LONGEST_SIDE

-- a wire passes 1 to 16 logic blocks, or all of them
abbrev pub IsSegmentLength : SegmentLength → Type 0
IsSegmentLength (Places n) = (1 ≤ n) × (n ≤ longest_wire)
IsSegmentLength Longline = Unit {0}

-- how many classes of pins there are: they run from 0 without gaps
abbrev pub class_count : Architecture → ℕ
class_count a = fold (λ n p. max n (p.class + 1)) 0 a.pins

-- how many pins a class has
abbrev pub class_size : Architecture → ℕ → ℕ
class_size a class = count_by (λ p. p.class == class) a.pins

-- the direction of a class: that of its first pin
abbrev pub class_direction : Architecture → ℕ → Option Direction
class_direction a class = option_map (λ p. p.direction) (find (λ p. p.class == class) a.pins)

-- the limits that every architecture keeps (this project's profile)
pub record IsWithinLimits (a : Architecture) : Type 0 where
  pub some_pads : 1 ≤ a.io_rat
  pub few_pads : a.io_rat ≤ most_pads
  pub some_pins : 1 ≤ length a.pins
  pub few_pins : length a.pins ≤ most_pins
  pub few_classes : All (λ p. p.class < most_pins) a.pins
  -- no class has pins of both directions
  pub one_direction : All (λ p. class_direction a p.class ≡ Some p.direction) a.pins
  pub some_segments : 1 ≤ length a.segments
  pub few_segments : length a.segments ≤ most_segments
  pub segment_lengths : All (λ s. IsSegmentLength s.length) a.segments
