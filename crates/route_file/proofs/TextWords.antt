-- The lines that the text of a routing is read as.
use Rattle.std.proofs.Common.{◌≡◌, ℕ, ◌+◌, ◌^◌, ◌≤◌, Bool, true, false, cond, not, ◌||◌, List, [], ◌∷◌, length, Some, None, Ok, if◌then◌else◌, codes, refl, ap, ◌∙◌, append_assoc}
use Rattle.std.specs.Prelude.{filter}
use Rattle.std.specs.List.{AllByRecursion, flat_map, slice_split, list_any, position_from}
use Rattle.std.proofs.lemmas.Bool.{false≢true, le-ltb, and_parts}
use Rattle.std.proofs.lemmas.List.Elements.{All-from_recursion}
use Rattle.std.proofs.lemmas.List.Splits.{slice_split_at}
use Rattle.vpr_text.specs.Words.{Line, is_line_feed, goes_on, given_up, continued, lines_from, has_words, words_of}
use Rattle.vpr_text.specs.Text.{is_bad, bad_line_from, lines_of}
use Rattle.route_file.specs.TextLine.{TextLine, bytes_on, line_text}
use Rattle.route_file.proofs.PlainWords.{is_fine, are_fine}
use Rattle.route_file.proofs.LineWords.{IsClear, line_words, words_on_line, ends_there, fine_line}

abbrev pub AreClear : List TextLine → Type 0
AreClear lines = AllByRecursion IsClear lines

-- lines with the words of these, numbered from n on, and an empty one after the last line feed
abbrev pub numbered : ℕ → List TextLine → List Line
numbered n [] = record { number = n; words = [] } ∷ []
numbered n (l ∷ ls) = record { number = n; words = line_words l } ∷ numbered (n + 1) ls

none_of_two : (a b : Bool) → not (a || b) ≡ true → (a ≡ false) × (b ≡ false)
none_of_two true b e = absurd (false≢true e)
none_of_two false true e = absurd (false≢true e)
none_of_two false false e = (refl, refl)

no_feed : (xs : List ℕ) → are_fine xs ≡ true → AllByRecursion (λ b. is_line_feed b ≡ false) xs
no_feed [] e = tt
no_feed (b ∷ xs) e =
    let h = and_parts (is_fine b) (are_fine xs) e in
    ((none_of_two (is_line_feed b) (is_bad b) h.0).0, no_feed xs h.1)

no_bad : (xs : List ℕ) → are_fine xs ≡ true → list_any is_bad xs ≡ false
no_bad [] e = refl
no_bad (b ∷ xs) e =
    let h = and_parts (is_fine b) (are_fine xs) e in
    ap (λ t. t || list_any is_bad xs) (none_of_two (is_line_feed b) (is_bad b) h.0).1 ∙ no_bad xs h.1

-- the physical lines
abbrev parts_of : List TextLine → List (List ℕ)
parts_of [] = [] ∷ []
parts_of (l ∷ ls) = bytes_on l ∷ parts_of ls

split_text : (ls : List TextLine) → AreClear ls → slice_split is_line_feed (flat_map line_text ls) ≡ parts_of ls
split_text [] h = refl
split_text (l ∷ ls) h =
    let rest = flat_map line_text ls in
    ap (slice_split is_line_feed) (append_assoc (bytes_on l) (codes "\n") rest)
    ∙ (slice_split_at is_line_feed (bytes_on l) 10 rest (All-from_recursion (λ b. is_line_feed b ≡ false) (bytes_on l) (no_feed (bytes_on l) (fine_line l h.0))) refl
    ∙ ap (λ (ps : List (List ℕ)). bytes_on l ∷ ps) (split_text ls h.1))

from_parts : (n : ℕ) (ls : List TextLine) → AreClear ls → lines_from n (parts_of ls) ≡ numbered n ls
from_parts n [] h = refl
from_parts n (l ∷ ls) h =
    let rest = lines_from (n + 1) (parts_of ls) in
    ap (λ (ws : List (List ℕ)). if goes_on ws then continued n (given_up ws) rest else (record { number = n; words = ws } ∷ rest)) (words_on_line l h.0)
    ∙ (ap (λ b. if b then continued n (given_up (line_words l)) rest else (record { number = n; words = line_words l } ∷ rest)) (ends_there l h.0)
    ∙ ap (λ (more : List Line). record { number = n; words = line_words l } ∷ more) (from_parts (n + 1) ls h.1))

none_bad : (n : ℕ) (ls : List TextLine) → AreClear ls → position_from (list_any is_bad) n (parts_of ls) ≡ None
none_bad n [] h = refl
none_bad n (l ∷ ls) h =
    ap (λ b. cond b (Some n) (position_from (list_any is_bad) (n + 1) (parts_of ls))) (no_bad (bytes_on l) (fine_line l h.0)) ∙ none_bad (n + 1) ls h.1

-- A text is read as its lines, without the empty ones.
pub words_of_text : (ls : List TextLine) → AreClear ls → words_of (flat_map line_text ls) ≡ filter has_words (numbered 1 ls)
words_of_text ls h = ap (λ (ps : List (List ℕ)). filter has_words (lines_from 1 ps)) (split_text ls h) ∙ ap (filter has_words) (from_parts 1 ls h)

pub lines_of_text : (ls : List TextLine) → AreClear ls → length (flat_map line_text ls) ≤ 2 ^ 24 → lines_of (flat_map line_text ls) ≡ Ok (filter has_words (numbered 1 ls))
unfolding lines_of
lines_of_text ls h short =
    let bytes = flat_map line_text ls in
    let fine : bad_line_from 1 bytes ≡ None = ap (position_from (list_any is_bad) 1) (split_text ls h) ∙ none_bad 1 ls h in
    rw (le-ltb (2 ^ 24) (length bytes) short, fine) (ap Ok (words_of_text ls h))
