-- A node's line is read as its node.
use Rattle.std.proofs.Common.{◌≡◌, ℕ, ◌^◌, ◌<◌, ◌≤◌, Bool, true, false, not, List, [], ◌∷◌, ◌++◌, All, Some, if◌then◌else◌, decimal, codes, refl, ap, ◌∙◌, arith}
use Rattle.std.specs.Prelude.{filter}
use Rattle.std.specs.List.{AllByRecursion, flat_map, slice_split, list_all}
use Rattle.std.proofs.lemmas.Bool.{and_parts, not-true}
use Rattle.std.proofs.lemmas.Bool.Decides.{nat_tests}
use Rattle.std.proofs.lemmas.List.Elements.{All-from_recursion}
use Rattle.std.proofs.lemmas.List.Splits.{slice_split_at, slice_split_none}
use Rattle.vpr_text.specs.Words.{is_filled}
use Rattle.vpr_text.specs.Word.{is_text}
use Rattle.rr_graph.specs.node.Kind.{Kind}
use Rattle.rr_graph.specs.node.Kind.TheVariants as kind
use Rattle.rr_graph.specs.node.Label.{Label}
use Rattle.rr_graph.specs.node.Label.TheVariants as label
use Rattle.rr_graph.specs.node.Span.{Span}
use Rattle.rr_graph.specs.Nodes.{label_by}
use Rattle.route_file.specs.TextLine.{NodeLine}
use Rattle.text_output.specs.NodeTexts.{place_text, is_one_place}
use Rattle.route_file.specs.NodeWords.{is_mark, pieces_of, node_words}
use Rattle.route_file.specs.NodeLine.{kind_of, label_from, takes}
use Rattle.route_file.proofs.PlainWords.{plain_number, all_of_number, kept_word}
use Rattle.route_file.proofs.LineWords.{IsClearSpan, kind_word, label_word, line_words}

digit_unmarked : (b : ℕ) → 48 ≤ b → b ≤ 57 → not (is_mark b) ≡ true
digit_unmarked b low high = grind (arith, nat_tests)

unmarked : (w : List ℕ) → list_all (λ b. not (is_mark b)) w ≡ true → AllByRecursion (λ b. is_mark b ≡ false) w
unmarked [] e = tt
unmarked (b ∷ w) e = let h = and_parts (not (is_mark b)) (list_all (λ b. not (is_mark b)) w) e in (not-true (is_mark b) h.0, unmarked w h.1)

number_unmarked : (n : ℕ) → n < 2 ^ 64 → All (λ b. is_mark b ≡ false) (decimal n)
number_unmarked n h = All-from_recursion (λ b. is_mark b ≡ false) (decimal n) (unmarked (decimal n) (all_of_number (λ b. not (is_mark b)) n h digit_unmarked))

number_pieces : (n : ℕ) → n < 2 ^ 64 → pieces_of (decimal n) ≡ decimal n ∷ []
unfolding pieces_of
number_pieces n h = ap (filter is_filled) (slice_split_none is_mark (decimal n) (number_unmarked n h)) ∙ kept_word (decimal n) [] (plain_number n h).filled

-- a place is cut into its two numbers
place_pieces : (x y : ℕ) → x < 2 ^ 64 → y < 2 ^ 64 → pieces_of (place_text x y) ≡ decimal x ∷ decimal y ∷ []
unfolding pieces_of place_text
place_pieces x y h k =
    ap (filter is_filled) (slice_split_at is_mark (decimal x) 44 (decimal y ++ 41 ∷ []) (number_unmarked x h) refl)
    ∙ (kept_word (decimal x) (slice_split is_mark (decimal y ++ 41 ∷ [])) (plain_number x h).filled
    ∙ ap (λ (ws : List (List ℕ)). decimal x ∷ ws)
    (ap (filter is_filled) (slice_split_at is_mark (decimal y) 41 [] (number_unmarked y k) refl) ∙ kept_word (decimal y) ([] ∷ []) (plain_number y k).filled))

to_pieces : pieces_of (codes "to") ≡ codes "to" ∷ []
unfolding pieces_of
to_pieces = refl

kind_pieces : (k : Kind) → pieces_of (kind_word k) ≡ kind_word k ∷ []
unfolding pieces_of
kind_pieces kind.Source = refl
kind_pieces kind.Sink = refl
kind_pieces kind.Opin = refl
kind_pieces kind.Ipin = refl
kind_pieces kind.Chanx = refl
kind_pieces kind.Chany = refl

label_pieces : (l : Label) → pieces_of (label_word l) ≡ label_word l ∷ []
unfolding pieces_of
label_pieces label.Class = refl
label_pieces label.Pin = refl
label_pieces label.Pad = refl
label_pieces label.Track = refl

pub kind_read : (k : Kind) → kind_of (kind_word k) ≡ Some k
unfolding kind_of is_text
kind_read kind.Source = refl
kind_read kind.Sink = refl
kind_read kind.Opin = refl
kind_read kind.Ipin = refl
kind_read kind.Chanx = refl
kind_read kind.Chany = refl

pub label_read : (l : Label) → label_from (label_word l) ≡ Some l
unfolding label_from is_text
label_read label.Class = refl
label_read label.Pin = refl
label_read label.Pad = refl
label_read label.Track = refl

pub label_taken : (k : Kind) (block : Bool) → takes k (label_by k block) ≡ true
unfolding takes
label_taken kind.Source true = refl
label_taken kind.Source false = refl
label_taken kind.Sink true = refl
label_taken kind.Sink false = refl
label_taken kind.Opin true = refl
label_taken kind.Opin false = refl
label_taken kind.Ipin true = refl
label_taken kind.Ipin false = refl
label_taken kind.Chanx block = refl
label_taken kind.Chany block = refl

-- the words of a node's line of one place, and of one of several
abbrev pub words_of_node : (one : Bool) → Kind → Span → Label → ℕ → List (List ℕ)
words_of_node true k s l n = kind_word k ∷ decimal s.x1 ∷ decimal s.y1 ∷ label_word l ∷ decimal n ∷ []
words_of_node false k s l n = kind_word k ∷ decimal s.x1 ∷ decimal s.y1 ∷ codes "to" ∷ decimal s.x2 ∷ decimal s.y2 ∷ label_word l ∷ decimal n ∷ []

cut_words : (one : Bool) (k : Kind) (s : Span) (l : Label) (n : ℕ) → IsClearSpan s → n < 2 ^ 64
    → flat_map pieces_of (kind_word k ∷ ((if one then place_text s.x1 s.y1 ∷ [] else (place_text s.x1 s.y1 ∷ codes "to" ∷ place_text s.x2 s.y2 ∷ [])) ++ (label_word l ∷ decimal n ∷ []))) ≡ words_of_node one k s l n
cut_words true k s l n h m = rw (kind_pieces k, place_pieces s.x1 s.y1 h.x1 h.y1, label_pieces l, number_pieces n m) refl
cut_words false k s l n h m = rw (kind_pieces k, place_pieces s.x1 s.y1 h.x1 h.y1, to_pieces, place_pieces s.x2 s.y2 h.x2 h.y2, label_pieces l, number_pieces n m) refl

-- the words of a node's line, cut at its brackets and commas
pub node_words_cut : (k : Kind) (s : Span) (l : Label) (n : ℕ) → IsClearSpan s → n < 2 ^ 64 → node_words (line_words (NodeLine k s l n)) ≡ words_of_node (is_one_place s) k s l n
unfolding node_words
node_words_cut k s l n h m = cut_words (is_one_place s) k s l n h m
