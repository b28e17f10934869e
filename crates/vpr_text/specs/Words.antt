-- The logical lines of a text and their words. Comments and continuations are those of the VPR and
-- T-VPack manual 4.30; the separators, the numbers of lines and the dropped lines are this
-- project's profile.
use Rattle.std.specs.Prelude.{ℕ, ◌+◌, ◌-◌, Bool, true, false, ◌||◌, ◌==◌, if◌then◌else◌, List, [], ◌∷◌, ◌++◌, length, take, filter, slice_index_or}
use Rattle.std.specs.List.{slice_split, before_first}

-- a logical line: the number of its first physical line, counted from 1, and its words
pub record Line : Type 0 where
  pub number : ℕ
  pub words : List (List ℕ)

-- a line feed ends a physical line
abbrev pub is_line_feed : ℕ → Bool
is_line_feed b = b == 10

-- a number sign begins a comment, which goes on to the end of the physical line
abbrev pub is_comment_sign : ℕ → Bool
is_comment_sign b = b == 35

-- a tab, a vertical tab, a form feed, a carriage return and a space separate words
abbrev pub is_separator : ℕ → Bool
is_separator b = (b == 9) || (b == 11) || (b == 12) || (b == 13) || (b == 32)

abbrev pub is_filled : {X : Type 0} → List X → Bool
is_filled [] = false
is_filled (x ∷ xs) = true

-- the pieces between separators, without the empty ones
abbrev pub words_between : List ℕ → List (List ℕ)
words_between text = filter is_filled (slice_split is_separator text)

-- the words of a physical line: those before its comment
abbrev pub words_on : List ℕ → List (List ℕ)
words_on line = words_between (before_first is_comment_sign line)

abbrev pub ends_in_backslash : List ℕ → Bool
ends_in_backslash [] = false
ends_in_backslash (b ∷ []) = b == 92
ends_in_backslash (b ∷ c ∷ bs) = ends_in_backslash (c ∷ bs)

-- whether a physical line goes on: its last word ends in a backslash
abbrev pub goes_on : List (List ℕ) → Bool
goes_on [] = false
goes_on (w ∷ []) = ends_in_backslash w
goes_on (w ∷ v ∷ ws) = goes_on (v ∷ ws)

-- a word without its last byte, if anything is left of it
abbrev pub shortened : List ℕ → List (List ℕ)
shortened w = filter is_filled (take (length w - 1) w ∷ [])

-- the words of a physical line that goes on, without the backslash that it gives up
abbrev pub given_up : List (List ℕ) → List (List ℕ)
given_up [] = []
given_up (w ∷ []) = shortened w
given_up (w ∷ v ∷ ws) = w ∷ given_up (v ∷ ws)

-- The words that line number n begins with, and then the lines after it: the first of them goes on
-- with its words. The manual turns the backslash into a space and joins the next physical line,
-- which gives the same words: none of them reaches over the space.
abbrev pub continued : ℕ → List (List ℕ) → List Line → List Line
continued n ws [] = record { number = n; words = ws } ∷ []
continued n ws (l ∷ ls) = record { number = n; words = ws ++ l.words } ∷ ls

-- the logical lines of physical lines; the first of these has number n
abbrev pub lines_from : ℕ → List (List ℕ) → List Line
lines_from n [] = []
lines_from n (p ∷ ps) =
    if goes_on (words_on p)
    then continued n (given_up (words_on p)) (lines_from (n + 1) ps)
    else (record { number = n; words = words_on p } ∷ lines_from (n + 1) ps)

abbrev pub has_words : Line → Bool
has_words l = is_filled l.words

-- the logical lines of a text that have words
abbrev pub words_of : List ℕ → List Line
words_of bytes = filter has_words (lines_from 1 (slice_split is_line_feed bytes))

-- what is past the last line
abbrev pub no_line : Line
no_line = record { number = 0; words = [] }

-- the number of line i, and its words
abbrev pub number_at : List Line → ℕ → ℕ
number_at ls i = (slice_index_or ls i no_line).number

abbrev pub words_at : List Line → ℕ → List (List ℕ)
words_at ls i = (slice_index_or ls i no_line).words
