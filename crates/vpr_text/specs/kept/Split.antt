-- How lines are kept: ranges of the source, and for each line its number and its part of the
-- ranges.
use Rattle.std.specs.Prelude.{◌≡◌, ℕ, ◌+◌, ◌-◌, ◌<◌, ◌≤◌, nat_lt, Bool, if◌then◌else◌, List, [], ◌∷◌, ◌++◌, length, take, drop, map, slice_range, All}
use Rattle.vpr_text.specs.declared.line.ByteRange.{ByteRange}
use Rattle.vpr_text.specs.declared.line.LineEntry.{LineEntry}
use Rattle.vpr_text.specs.Words.{Line, words_on, goes_on, given_up}
use Rattle.vpr_text.specs.Text.{IsWord}

-- the word at a range
abbrev pub word_in : List ℕ → ByteRange → List ℕ
word_in source r = slice_range source r.start r.end

abbrev pub words_in : List ℕ → List ByteRange → List (List ℕ)
words_in source ranges = map (word_in source) ranges

-- the line at an entry
abbrev pub line_in : List ℕ → List ByteRange → LineEntry → Line
line_in source ranges e = record { number = e.number; words = words_in source (take e.count (drop e.first ranges)) }

abbrev pub lines_in : List ℕ → List ByteRange → List LineEntry → List Line
lines_in source ranges entries = map (line_in source ranges) entries

-- the ranges lie in the source, and the entries in the ranges
abbrev pub IsRange : ℕ → ByteRange → Type 0
IsRange n r = (r.start < r.end) × (r.end ≤ n)

abbrev pub IsEntry : ℕ → LineEntry → Type 0
IsEntry n e = e.first + e.count ≤ n

pub record AreEntriesOf (source : List ℕ) (ranges : List ByteRange) (entries : List LineEntry) : Type 0 where
  pub ranges_fit : All (IsRange (length source)) ranges
  pub entries_fit : All (IsEntry (length ranges)) entries

-- a range, if it isn't empty, and an entry, if it has words
abbrev pub range_if : ℕ → ℕ → List ByteRange
range_if start end = if nat_lt start end then (record { start = start; end = end } ∷ []) else []

abbrev pub entry_if : ℕ → ℕ → ℕ → List LineEntry
entry_if number first end = if nat_lt first end then (record { number = number; first = first; count = end - first } ∷ []) else []

-- the ranges grew by those of these words
pub record Adds (source : List ℕ) (old new : List ByteRange) (ws : List (List ℕ)) : Type 0 where
  pub added : List ByteRange
  pub whole : new ≡ old ++ added
  pub fits : All (IsRange (length source)) added
  pub words : words_in source added ≡ ws

-- the words that a physical line leaves
abbrev pub words_left : List (List ℕ) → List (List ℕ)
words_left ws = if goes_on ws then given_up ws else ws

-- the words from first on lost their last backslash, where they end in one
pub record GivesUp (source : List ℕ) (first : ℕ) (old new : List ByteRange) (result : Bool) : Type 0 where
  pub answer : result ≡ goes_on (words_in source (drop first old))
  pub left : Adds source (take first old) new (words_left (words_in source (drop first old)))

-- the ranges grew by the words that a physical line leaves, and the answer is whether it goes on
pub record AddsLine (source : List ℕ) (old new : List ByteRange) (line : List ℕ) (result : Bool) : Type 0 where
  pub answer : result ≡ goes_on (words_on line)
  pub left : Adds source old new (words_left (words_on line))

-- lines consist of words
abbrev pub HaveWords : List Line → Type 0
HaveWords lines = All (λ l. All IsWord l.words) lines
