-- `segment` lines: what each says, or its first fault (VPR and T-VPack manual 4.30; lengths, limits
-- and the order of the faults are this project's profile). The pairs are the words after the
-- keyword.
use Rattle.std.specs.Prelude.{ℕ, Bool, false, not, ◌&&◌, ◌||◌, ◌==◌, nat_lt, nat_le, if◌then◌else◌, List, length, drop, unwrap_or, is_none, Result, codes}
use Rattle.std.specs.List.{list_any}
use Rattle.arch_file.specs.declared.fault.LineFault.{LineFault}
use Rattle.arch_file.specs.declared.line.ArchLine.{ArchLine}
use Rattle.arch_file.specs.declared.line.ArchLine.TheVariants as line
use Rattle.arch_file.specs.declared.entries.Segment.{Segment}
use Rattle.arch_file.specs.declared.entries.SegmentLength.{SegmentLength}
use Rattle.arch_file.specs.declared.entries.SegmentLength.TheVariants.{Places, Longline}
use Rattle.arch_file.specs.Faults.{first_fault}
use Rattle.vpr_text.specs.Word.{is_text}
use Rattle.arch_file.specs.Lines.{segments_of}
use Rattle.vpr_text.specs.Numbers.{number_of, fixed_of, is_decimal}
use Rattle.arch_file.specs.Pairs.{pairs_of, has_key, is_value, number_for, fixed_for}
use Rattle.arch_file.specs.Architecture.{most_segments, longest_wire}

-- a word is neither `longline` nor a number of logic blocks
abbrev pub is_wrong_length : List ℕ → Bool
is_wrong_length word = not (is_text word (codes "longline")) && (unwrap_or (number_of word) 0 == 0)

-- what the value of a key has to be: a number with decimals, the number of a switch, or a decimal
-- that isn't used
unfoldable pub wants_fixed : List ℕ → Bool
wants_fixed key = is_text key (codes "frequency:") || is_text key (codes "Frac_cb:") || is_text key (codes "Frac_sb:")

unfoldable pub wants_number : List ℕ → Bool
wants_number key = is_text key (codes "wire_switch:") || is_text key (codes "opin_switch:")

unfoldable pub wants_decimal : List ℕ → Bool
wants_decimal key = is_text key (codes "Rmetal:") || is_text key (codes "Cmetal:")

-- the value isn't the number that the key wants; an unknown key wants nothing
unfoldable pub is_wrong_value : List ℕ × List ℕ → Bool
is_wrong_value (key, value) =
    if is_text key (codes "length:") then is_wrong_length value
    else (if wants_fixed key then is_none (fixed_of value)
    else (if wants_number key then is_none (number_of value)
    else (wants_decimal key && not (is_decimal value))))

unfoldable pub has_wrong_value : List (List ℕ) → Bool
has_wrong_value pairs = list_any is_wrong_value (pairs_of pairs)

unfoldable pub has_wire_keys : List (List ℕ) → Bool
has_wire_keys pairs =
    has_key pairs (codes "frequency:")
    && has_key pairs (codes "length:")
    && has_key pairs (codes "wire_switch:")
    && has_key pairs (codes "opin_switch:")

unfoldable pub has_other_keys : List (List ℕ) → Bool
has_other_keys pairs =
    has_key pairs (codes "Frac_cb:")
    && has_key pairs (codes "Frac_sb:")
    && has_key pairs (codes "Rmetal:")
    && has_key pairs (codes "Cmetal:")

-- the words are the eight pairs: with as many words and each key among them, no key is unknown,
-- repeated or left out
unfoldable pub has_segment_keys : List (List ℕ) → Bool
has_segment_keys pairs = (length pairs == 16) && has_wire_keys pairs && has_other_keys pairs

-- the length of the segment's wires
unfoldable pub length_in : List (List ℕ) → SegmentLength
length_in pairs = if is_value pairs (codes "length:") (codes "longline") then Longline else Places (number_for pairs (codes "length:"))

abbrev pub is_too_long : SegmentLength → Bool
is_too_long (Places n) = nat_lt longest_wire n
is_too_long Longline = false

-- wires of more than 16 logic blocks, and blocks that connect to a part of the tracks
unfoldable pub is_unsupported : List (List ℕ) → Bool
is_unsupported pairs =
    is_too_long (length_in pairs) || not (fixed_for pairs (codes "Frac_cb:") == 1000000000) || not (fixed_for pairs (codes "Frac_sb:") == 1000000000)

-- the segment that the pairs describe
unfoldable pub segment_in : List (List ℕ) → Segment
segment_in pairs =
    record {
      frequency = fixed_for pairs (codes "frequency:");
      length = length_in pairs;
      wire_switch = number_for pairs (codes "wire_switch:");
      opin_switch = number_for pairs (codes "opin_switch:");
    }

-- `segment` and its eight pairs: at most 16 segments
unfoldable pub segment_line : List ArchLine → List (List ℕ) → Result ArchLine LineFault
segment_line before words =
    first_fault (has_wrong_value (drop 1 words))
    (not (has_segment_keys (drop 1 words)))
    (is_unsupported (drop 1 words))
    (nat_le most_segments (length (segments_of before)))
    (line.Segment (segment_in (drop 1 words)))
