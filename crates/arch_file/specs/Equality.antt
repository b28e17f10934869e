-- When two architectures are the same: all their entries are.
use Rattle.std.specs.Prelude.{Bool, true, false, ◌==◌, ◌&&◌}
use Rattle.std.proofs.Math.Bool.{beq}
use Rattle.std.specs.Cmp.Lexicographic.{pointwise}
use Rattle.arch_file.specs.declared.entries.Sides.{Sides}
use Rattle.arch_file.specs.declared.entries.Pin.{Pin}
use Rattle.arch_file.specs.declared.entries.FcType.{FcType}
use Rattle.arch_file.specs.declared.entries.FcType.TheVariants.{Absolute, Fractional}
use Rattle.arch_file.specs.declared.entries.Segment.{Segment}
use Rattle.arch_file.specs.declared.entries.SegmentLength.{SegmentLength}
use Rattle.arch_file.specs.declared.entries.SegmentLength.TheVariants.{Places, Longline}
use Rattle.arch_file.specs.declared.entries.Switch.{Switch}
use Rattle.arch_file.specs.Architecture.{Architecture}
use Rattle.arch_file.specs.Lines.{same_direction}

abbrev pub same_sides : Sides → Sides → Bool
same_sides a b = beq a.top b.top && (beq a.bottom b.bottom && (beq a.left b.left && beq a.right b.right))

abbrev pub same_pin : Pin → Pin → Bool
same_pin a b = a.class == b.class && (same_direction a.direction b.direction && (beq a.global b.global && same_sides a.sides b.sides))

abbrev pub same_fc_type : FcType → FcType → Bool
same_fc_type Absolute Absolute = true
same_fc_type Absolute Fractional = false
same_fc_type Fractional Absolute = false
same_fc_type Fractional Fractional = true

abbrev pub same_length : SegmentLength → SegmentLength → Bool
same_length (Places m) (Places n) = m == n
same_length (Places m) Longline = false
same_length Longline (Places n) = false
same_length Longline Longline = true

abbrev pub same_segment : Segment → Segment → Bool
same_segment a b = a.frequency == b.frequency && (same_length a.length b.length && (a.wire_switch == b.wire_switch && a.opin_switch == b.opin_switch))

abbrev pub same_switch : Switch → Switch → Bool
same_switch a b = a.number == b.number && beq a.buffered b.buffered

-- the three Fc values of the two are the same, and count the same
abbrev pub same_fc : Architecture → Architecture → Bool
same_fc a b = same_fc_type a.fc_type b.fc_type && (a.fc_output == b.fc_output && (a.fc_input == b.fc_input && a.fc_pad == b.fc_pad))

-- the two have the same entries
unfoldable pub is_same_architecture : Architecture → Architecture → Bool
is_same_architecture a b =
    a.io_rat == b.io_rat && (pointwise same_pin a.pins b.pins && (same_fc a b
    && (pointwise same_segment a.segments b.segments && pointwise same_switch a.switches b.switches)))
