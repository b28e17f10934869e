-- `inpin` and `outpin` lines: what each says, or its first fault (VPR and T-VPack manual 4.30; the
-- limits, a side named twice and the order of the faults are this project's profile).
use Rattle.std.specs.Prelude.{ℕ, Bool, true, false, not, ◌&&◌, ◌||◌, ◌==◌, nat_le, if◌then◌else◌, List, length, drop, unwrap_or, Result, codes}
use Rattle.std.specs.Option.{option_map_or}
use Rattle.std.specs.List.{list_any, list_all}
use Rattle.arch_file.specs.declared.fault.LineFault.{LineFault}
use Rattle.arch_file.specs.declared.line.ArchLine.{ArchLine}
use Rattle.arch_file.specs.declared.line.ArchLine.TheVariants as line
use Rattle.arch_file.specs.declared.entries.Direction.{Direction}
use Rattle.arch_file.specs.declared.entries.Direction.TheVariants.{Input}
use Rattle.arch_file.specs.declared.entries.Pin.{Pin}
use Rattle.arch_file.specs.declared.entries.Sides.{Sides}
use Rattle.arch_file.specs.Faults.{first_fault}
use Rattle.vpr_text.specs.Word.{is_text, has, is_at, number_in}
use Rattle.arch_file.specs.Lines.{same_direction, pins_of}
use Rattle.arch_file.specs.Architecture.{most_pins}

-- a pin of the lines before has this class and the other direction
unfoldable pub mixes : List ArchLine → Direction → ℕ → Bool
mixes before direction class = list_any (λ pin. (pin.class == class) && not (same_direction pin.direction direction)) (pins_of before)

-- the class is there, and is no number or is one of the other direction
unfoldable pub is_bad_class : List ArchLine → Direction → List (List ℕ) → Bool
is_bad_class before direction words = has words 2 && option_map_or (mixes before direction) (number_in words 2) true

-- `global` comes right after the class of an input pin
unfoldable pub is_global_pin : Direction → List (List ℕ) → Bool
is_global_pin direction words = same_direction direction Input && is_at words 3 (codes "global")

-- the words after the class, and after `global`
unfoldable pub side_words : Direction → List (List ℕ) → List (List ℕ)
side_words direction words = if is_global_pin direction words then drop 4 words else drop 3 words

unfoldable pub is_side : List ℕ → Bool
is_side word = is_text word (codes "top") || is_text word (codes "bottom") || is_text word (codes "left") || is_text word (codes "right")

-- a word names this side
abbrev pub names : List (List ℕ) → List ℕ → Bool
names words side = list_any (λ word. is_text word side) words

-- the sides that the words name; a side that is named twice counts once
abbrev pub sides_in : List (List ℕ) → Sides
sides_in words = record { top = names words (codes "top"); bottom = names words (codes "bottom"); left = names words (codes "left"); right = names words (codes "right") }

-- the pin that a line describes
unfoldable pub pin_in : Direction → List (List ℕ) → Pin
pin_in direction words =
    record {
      class = unwrap_or (number_in words 2) 0;
      direction = direction;
      global = is_global_pin direction words;
      sides = sides_in (side_words direction words);
    }

-- a word after the class is no side, or there is none and the pin isn't global
unfoldable pub lacks_sides : Direction → List (List ℕ) → Bool
lacks_sides direction words =
    not (list_all is_side (side_words direction words)) || ((length (side_words direction words) == 0) && not (is_global_pin direction words))

-- `inpin class: n [global] sides` and `outpin class: n sides`: at most 64 pins, in classes 0 to 63
unfoldable pub pin_line : List ArchLine → Direction → List (List ℕ) → Result ArchLine LineFault
pin_line before direction words =
    first_fault (is_bad_class before direction words)
    (not (is_at words 1 (codes "class:")) || lacks_sides direction words)
    false
    (nat_le most_pins (unwrap_or (number_in words 2) 0) || nat_le most_pins (length (pins_of before)))
    (line.Pin (pin_in direction words))
