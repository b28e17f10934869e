-- `switch` lines: what each says, or its first fault (VPR and T-VPack manual 4.30; limits and the
-- order of the faults are this project's profile). The pairs are the words after the keyword and
-- the number.
use Rattle.std.specs.Prelude.{ℕ, Bool, false, not, ◌&&◌, ◌||◌, ◌==◌, nat_lt, if◌then◌else◌, List, length, drop, unwrap_or, is_none, Result, Err, codes}
use Rattle.std.specs.Option.{option_map_or}
use Rattle.std.specs.List.{list_any}
use Rattle.arch_file.specs.declared.fault.LineFault.{LineFault}
use Rattle.arch_file.specs.declared.fault.LineFault.TheVariants.{Repeated}
use Rattle.arch_file.specs.declared.line.ArchLine.{ArchLine}
use Rattle.arch_file.specs.declared.line.ArchLine.TheVariants as line
use Rattle.arch_file.specs.declared.entries.Switch.{Switch}
use Rattle.arch_file.specs.Faults.{first_fault}
use Rattle.vpr_text.specs.Word.{is_text, has, number_in}
use Rattle.arch_file.specs.Lines.{switches_of}
use Rattle.vpr_text.specs.Numbers.{is_decimal}
use Rattle.arch_file.specs.Pairs.{pairs_of, has_key, is_value}

-- a line gives the switch of this number
unfoldable pub has_switch : List ArchLine → ℕ → Bool
has_switch lines number = list_any (λ switch. switch.number == number) (switches_of lines)

-- a line before gives the switch of this number
abbrev pub repeats_switch : List ArchLine → List (List ℕ) → Bool
repeats_switch before words = option_map_or (has_switch before) (number_in words 1) false

-- the value isn't the number that the key wants; an unknown key wants nothing
unfoldable pub is_wrong_value : List ℕ × List ℕ → Bool
is_wrong_value (key, value) =
    if is_text key (codes "R:") || is_text key (codes "Cin:") || is_text key (codes "Cout:") || is_text key (codes "Tdel:") then not (is_decimal value) else false

unfoldable pub has_wrong_value : List (List ℕ) → Bool
has_wrong_value pairs = list_any is_wrong_value (pairs_of pairs)

-- the word for the switch's number is there and is no number, or a value isn't the number that is
-- wanted
unfoldable pub has_bad_number : List (List ℕ) → Bool
has_bad_number words = (has words 1 && is_none (number_in words 1)) || has_wrong_value (drop 2 words)

-- the words are the five pairs: with as many words and each key among them, no key is unknown,
-- repeated or left out
unfoldable pub has_switch_keys : List (List ℕ) → Bool
has_switch_keys pairs =
    (length pairs == 10)
    && has_key pairs (codes "buffered:")
    && has_key pairs (codes "R:")
    && has_key pairs (codes "Cin:")
    && has_key pairs (codes "Cout:")
    && has_key pairs (codes "Tdel:")

-- `buffered:` has one of its two words
abbrev pub is_buffer_word : List (List ℕ) → Bool
is_buffer_word pairs = is_value pairs (codes "buffered:") (codes "yes") || is_value pairs (codes "buffered:") (codes "no")

-- the switch that the line describes
abbrev pub switch_in : List (List ℕ) → Switch
switch_in words = record { number = unwrap_or (number_in words 1) 0; buffered = is_value (drop 2 words) (codes "buffered:") (codes "yes") }

-- `switch n` and its five pairs, n at most 255
unfoldable pub switch_line : List ArchLine → List (List ℕ) → Result ArchLine LineFault
switch_line before words =
    if repeats_switch before words then Err Repeated
    else first_fault (has_bad_number words)
    (not (has_switch_keys (drop 2 words)) || not (is_buffer_word (drop 2 words)))
    false
    (nat_lt 255 (unwrap_or (number_in words 1) 0))
    (line.Switch (switch_in words))
