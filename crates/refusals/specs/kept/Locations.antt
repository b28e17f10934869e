-- The line and the word of a file that a fault is on, and both as they are shown.
use Rattle.std.specs.Prelude.{◌≡◌, ℕ, zero, suc, ◌==◌, ◌&&◌, nat_le, if◌then◌else◌, List, [], length, map, take, slice_get, Option, None, Some, Ok, option_and_then, unwrap_or}
use Rattle.std.specs.List.{position, slice_split}
use Rattle.vpr_text.specs.Words.{Line, is_line_feed, words_at}
use Rattle.vpr_text.specs.Text.{lines_of}
use Rattle.refusals.specs.declared.advice.Offender.{Offender}
use Rattle.refusals.specs.declared.advice.Offender.TheVariants.{Line as NoWord, First, Second, Third, Value, Names, Block}

-- the bytes of a physical line by its number, counted from 1; none if there is no such line
abbrev pub physical_line : List ℕ → ℕ → List ℕ
physical_line bytes zero = []
physical_line bytes (suc n) = unwrap_or (slice_get (slice_split is_line_feed bytes) n) []

-- the byte that is shown for a byte: a blank for a tab, itself if it is printable, else `?`
abbrev pub shown_byte : ℕ → ℕ
shown_byte b = if b == 9 then 32 else if nat_le 32 b && nat_le b 126 then b else 63

-- how many bytes are shown of a line or a word
abbrev pub most_shown : ℕ
most_shown = 200

-- a line or a word as it is shown
abbrev pub shown_text : List ℕ → List ℕ
shown_text piece = map shown_byte (take most_shown piece)

-- the place of the offending word among this many words, if there is one
abbrev pub place_in : Offender → ℕ → Option ℕ
place_in NoWord n = None
place_in First n = Some 0
place_in Second n = Some 1
place_in Third n = Some 2
place_in Value n = if n == 2 then Some 1 else None
place_in Names n = None
place_in (Block b) n = None

-- the offending word among these, if there is one
abbrev pub word_among : Offender → List (List ℕ) → Option (List ℕ)
word_among offender words = option_and_then (λ j. slice_get words j) (place_in offender (length words))

-- the offending word of the line with this number, if there is one
unfoldable pub offending_word : Offender → ℕ → List Line → Option (List ℕ)
offending_word offender n ls =
    option_and_then (λ i. word_among offender (words_at ls i)) (position (λ l. l.number == n) ls)

-- the text is the offending word, as it is shown, of the line with this number among the lines of
-- the bytes
pub record IsShownWord (offender : Offender) (n : ℕ) (bytes text : List ℕ) : Type 0 where
  pub lines : List Line
  pub word : List ℕ
  pub read : lines_of bytes ≡ Ok lines
  pub offends : offending_word offender n lines ≡ Some word
  pub shown : text ≡ shown_text word
