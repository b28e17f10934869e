-- What splitting a text gives: its lines, or the first fault. This project's profile.
use Rattle.std.specs.Prelude.{◌≡◌, ℕ, ◌^◌, Bool, true, not, All, ◌&&◌, ◌||◌, ◌==◌, nat_lt, nat_le, if◌then◌else◌, List, length, Option, None, Some, Result, Ok, Err}
use Rattle.std.specs.List.{slice_split, list_any, position_from}
use Rattle.vpr_text.specs.declared.fault.TextFault.{TextFault}
use Rattle.vpr_text.specs.declared.fault.TextFault.TheVariants.{TooLong, BadByte}
use Rattle.vpr_text.specs.Words.{Line, is_line_feed, is_comment_sign, is_separator, is_filled, words_of}

-- a control byte other than a tab, a line feed, a vertical tab, a form feed and a carriage return
abbrev pub is_bad : ℕ → Bool
is_bad b = (nat_lt b 32 && not (nat_le 9 b && nat_le b 13)) || (b == 127)

-- a byte that a word may have: it doesn't separate words, end a line or begin a comment, and isn't
-- bad
abbrev pub is_word_byte : ℕ → Bool
is_word_byte b = not (is_separator b || is_line_feed b || is_comment_sign b || is_bad b)

-- a word of a text: it isn't empty, and a word may have each of its bytes
pub record IsWord (word : List ℕ) : Type 0 where
  pub filled : is_filled word ≡ true
  pub bytes : All (λ b. is_word_byte b ≡ true) word

-- the first physical line that has a bad byte, where the bytes begin on line n
abbrev pub bad_line_from : ℕ → List ℕ → Option ℕ
bad_line_from n bytes = position_from (list_any is_bad) n (slice_split is_line_feed bytes)

abbrev pub lines_or_bad : Option ℕ → List ℕ → Result (List Line) TextFault
lines_or_bad None bytes = Ok (words_of bytes)
lines_or_bad (Some n) bytes = Err (BadByte n)

-- the lines of a text, or what is wrong with it
unfoldable pub lines_of : List ℕ → Result (List Line) TextFault
lines_of bytes = if nat_lt (2 ^ 24) (length bytes) then Err TooLong else lines_or_bad (bad_line_from 1 bytes) bytes
