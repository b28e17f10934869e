-- The words of each kind of line of a routing's text.
use Rattle.std.proofs.Common.{◌≡◌, ℕ, ◌^◌, ◌<◌, ◌≤◌, Bool, true, false, List, [], ◌∷◌, ◌++◌, Option, Some, None, if◌then◌else◌, decimal, codes, refl, sym, ap, ◌∙◌, append_assoc, arith}
use Rattle.std.proofs.lemmas.Bool.Decides.{nat_tests}
use Rattle.vpr_text.specs.Words.{is_filled, words_on, goes_on, ends_in_backslash}
use Rattle.rr_graph.specs.node.Kind.{Kind}
use Rattle.rr_graph.specs.node.Kind.TheVariants as kind
use Rattle.rr_graph.specs.node.Label.{Label}
use Rattle.rr_graph.specs.node.Label.TheVariants as label
use Rattle.rr_graph.specs.node.Span.{Span}
use Rattle.route_file.specs.TextLine.{TextLine, Size, Blank, Heading, RoutedNet, GlobalNet, Block, NodeLine, kind_field, class_text, bytes_on}
use Rattle.text_output.specs.NodeTexts.{label_text, place_text, is_one_place, span_text}
use Rattle.route_file.proofs.Digits.{all_digits}
use Rattle.route_file.proofs.PlainWords.{are_plain, is_fine, are_fine, IsPlain, all_append, fine_plain, blank_then, word_then, word_last, word_comment, plain_number, number_ends, closed}

-- the four numbers of a span are such as are printed
pub record IsClearSpan (s : Span) : Type 0 where
  pub x1 : s.x1 < 2 ^ 64
  pub y1 : s.y1 < 2 ^ 64
  pub x2 : s.x2 < 2 ^ 64
  pub y2 : s.y2 < 2 ^ 64

-- names on the line are words
abbrev pub IsClear : TextLine → Type 0
IsClear (Size nx ny) = (nx < 2 ^ 64) × (ny < 2 ^ 64)
IsClear Blank = Unit {0}
IsClear Heading = Unit {0}
IsClear (RoutedNet number name) = (number < 2 ^ 64) × (are_plain name ≡ true)
IsClear (GlobalNet number name) = (number < 2 ^ 64) × (are_plain name ≡ true)
IsClear (Block name number x y class) = IsPlain name
IsClear (NodeLine kind span label number) = IsClearSpan span × (number < 2 ^ 64)

abbrev pub kind_word : Kind → List ℕ
kind_word kind.Source = codes "SOURCE"
kind_word kind.Sink = codes "SINK"
kind_word kind.Opin = codes "OPIN"
kind_word kind.Ipin = codes "IPIN"
kind_word kind.Chanx = codes "CHANX"
kind_word kind.Chany = codes "CHANY"

abbrev pub label_word : Label → List ℕ
label_word label.Class = codes "Class:"
label_word label.Pin = codes "Pin:"
label_word label.Pad = codes "Pad:"
label_word label.Track = codes "Track:"

abbrev pub span_words : Span → List (List ℕ)
span_words s = if is_one_place s then place_text s.x1 s.y1 ∷ [] else (place_text s.x1 s.y1 ∷ codes "to" ∷ place_text s.x2 s.y2 ∷ [])

abbrev pub in_brackets : (name ending : List ℕ) → List ℕ
in_brackets name ending = 40 ∷ (name ++ ending)

-- the words of a line
abbrev pub line_words : TextLine → List (List ℕ)
line_words (Size nx ny) = codes "Array" ∷ codes "size:" ∷ decimal nx ∷ codes "x" ∷ decimal ny ∷ codes "logic" ∷ codes "blocks." ∷ []
line_words Blank = []
line_words Heading = codes "Routing:" ∷ []
line_words (RoutedNet number name) = codes "Net" ∷ decimal number ∷ in_brackets name (codes ")") ∷ []
line_words (GlobalNet number name) = codes "Net" ∷ decimal number ∷ in_brackets name (codes "):") ∷ codes "global" ∷ codes "net" ∷ codes "connecting:" ∷ []
line_words (Block name number x y class) = codes "Block" ∷ name ∷ codes "(" ∷ []
line_words (NodeLine kind span label number) = kind_word kind ∷ (span_words span ++ (label_word label ∷ decimal number ∷ []))

-- a word that is known is followed by a blank
known_then : (w rest : List ℕ) → is_filled w ≡ true → are_plain w ≡ true → words_on (w ++ 32 ∷ rest) ≡ w ∷ words_on rest
known_then w rest e h = word_then w rest (record { filled = e; plain = h })

known_last : (w : List ℕ) → is_filled w ≡ true → are_plain w ≡ true → words_on w ≡ w ∷ []
known_last w e h = word_last w (record { filled = e; plain = h })

more : (w : List ℕ) {v ws : List (List ℕ)} → v ≡ ws → w ∷ v ≡ w ∷ ws
more w e = ap (λ vs. w ∷ vs) e

bracketed : (name ending : List ℕ) → are_plain name ≡ true → are_plain ending ≡ true → IsPlain (in_brackets name ending)
bracketed name ending h k = record { filled = refl; plain = all_append _ name ending h k }

pub plain_place : (x y : ℕ) → x < 2 ^ 64 → y < 2 ^ 64 → IsPlain (place_text x y)
unfolding place_text
plain_place x y h k = record {
  filled = refl;
  plain = all_append _ (decimal x) _ (plain_number x h).plain (all_append _ (decimal y) _ (plain_number y k).plain refl);
}

size_words : (nx ny : ℕ) → nx < 2 ^ 64 → ny < 2 ^ 64 → words_on (bytes_on (Size nx ny)) ≡ line_words (Size nx ny)
unfolding bytes_on
size_words nx ny h k =
    let from_ny = decimal ny ++ codes " logic blocks." in
    let from_nx = decimal nx ++ (codes " x " ++ from_ny) in
    known_then (codes "Array") (codes "size: " ++ from_nx) refl refl
    ∙ more (codes "Array") (known_then (codes "size:") from_nx refl refl
    ∙ more (codes "size:") (word_then (decimal nx) (codes "x " ++ from_ny) (plain_number nx h)
    ∙ more (decimal nx) (known_then (codes "x") from_ny refl refl
    ∙ more (codes "x") (word_then (decimal ny) (codes "logic blocks.") (plain_number ny k)
    ∙ more (decimal ny) (known_then (codes "logic") (codes "blocks.") refl refl
    ∙ more (codes "logic") (known_last (codes "blocks.") refl refl))))))

net_words : (number : ℕ) (name : List ℕ) → number < 2 ^ 64 → are_plain name ≡ true → words_on (bytes_on (RoutedNet number name)) ≡ line_words (RoutedNet number name)
unfolding bytes_on
net_words number name h k =
    let named = in_brackets name (codes ")") in
    known_then (codes "Net") (decimal number ++ 32 ∷ named) refl refl
    ∙ more (codes "Net") (word_then (decimal number) named (plain_number number h)
    ∙ more (decimal number) (word_last named (bracketed name (codes ")") k refl)))

-- what stands after the name of a global net
abbrev rest_of_global : List ℕ
rest_of_global = codes "global net connecting:"

global_words : (number : ℕ) (name : List ℕ) → number < 2 ^ 64 → are_plain name ≡ true → words_on (bytes_on (GlobalNet number name)) ≡ line_words (GlobalNet number name)
unfolding bytes_on
global_words number name h k =
    let named = in_brackets name (codes "):") in
    let regroup : name ++ codes "): global net connecting:" ≡ (name ++ codes "):") ++ 32 ∷ rest_of_global = sym (append_assoc name (codes "):") (32 ∷ rest_of_global)) in
    ap (λ (t : List ℕ). words_on (codes "Net " ++ (decimal number ++ (codes " (" ++ t)))) regroup
    ∙ (known_then (codes "Net") (decimal number ++ 32 ∷ (named ++ 32 ∷ rest_of_global)) refl refl
    ∙ more (codes "Net") (word_then (decimal number) (named ++ 32 ∷ rest_of_global) (plain_number number h)
    ∙ more (decimal number) (word_then named rest_of_global (bracketed name (codes "):") k refl)
    ∙ more named (known_then (codes "global") (codes "net connecting:") refl refl
    ∙ more (codes "global") (known_then (codes "net") (codes "connecting:") refl refl
    ∙ more (codes "net") (known_last (codes "connecting:") refl refl))))))

-- the number of the block begins a comment
block_words : (name : List ℕ) (number x y : ℕ) (class : Option ℕ) → IsPlain name → words_on (bytes_on (Block name number x y class)) ≡ line_words (Block name number x y class)
unfolding bytes_on
block_words name number x y class h =
    let comment = decimal number ++ (codes ") at " ++ (place_text x y ++ (codes ", pinclass " ++ (class_text class ++ codes ".")))) in
    known_then (codes "Block") (name ++ (codes " (#" ++ comment)) refl refl
    ∙ more (codes "Block") (word_then name (codes "(#" ++ comment) h
    ∙ more name (word_comment (codes "(") comment (record { filled = refl; plain = refl })))

kind_words : (k : Kind) (rest : List ℕ) → words_on (kind_field k ++ 32 ∷ rest) ≡ kind_word k ∷ words_on rest
kind_words kind.Source rest = known_then (codes "SOURCE") rest refl refl
kind_words kind.Sink rest = blank_then (codes " SINK " ++ rest) ∙ (blank_then (codes "SINK " ++ rest) ∙ known_then (codes "SINK") rest refl refl)
kind_words kind.Opin rest = blank_then (codes " OPIN " ++ rest) ∙ (blank_then (codes "OPIN " ++ rest) ∙ known_then (codes "OPIN") rest refl refl)
kind_words kind.Ipin rest = blank_then (codes " IPIN " ++ rest) ∙ (blank_then (codes "IPIN " ++ rest) ∙ known_then (codes "IPIN") rest refl refl)
kind_words kind.Chanx rest = blank_then (codes "CHANX " ++ rest) ∙ known_then (codes "CHANX") rest refl refl
kind_words kind.Chany rest = blank_then (codes "CHANY " ++ rest) ∙ known_then (codes "CHANY") rest refl refl

label_words : (l : Label) (n : ℕ) → n < 2 ^ 64 → words_on (label_text l ++ decimal n) ≡ label_word l ∷ decimal n ∷ []
label_words label.Class n h = known_then (codes "Class:") (decimal n) refl refl ∙ more (codes "Class:") (word_last (decimal n) (plain_number n h))
label_words label.Pin n h = known_then (codes "Pin:") (decimal n) refl refl ∙ more (codes "Pin:") (word_last (decimal n) (plain_number n h))
label_words label.Pad n h = known_then (codes "Pad:") (decimal n) refl refl ∙ more (codes "Pad:") (word_last (decimal n) (plain_number n h))
label_words label.Track n h = known_then (codes "Track:") (decimal n) refl refl ∙ more (codes "Track:") (word_last (decimal n) (plain_number n h))

place_then : (x y : ℕ) (rest : List ℕ) → x < 2 ^ 64 → y < 2 ^ 64 → words_on (place_text x y ++ (codes "  " ++ rest)) ≡ place_text x y ∷ words_on rest
place_then x y rest h k = word_then (place_text x y) (32 ∷ rest) (plain_place x y h k) ∙ more (place_text x y) (blank_then rest)

-- one place, or two with `to` between them
span_then_by : (s : Span) (rest : List ℕ) (b : Bool) → IsClearSpan s
    → words_on ((if b then place_text s.x1 s.y1 else (place_text s.x1 s.y1 ++ (codes " to " ++ place_text s.x2 s.y2))) ++ (codes "  " ++ rest))
    ≡ (if b then place_text s.x1 s.y1 ∷ [] else (place_text s.x1 s.y1 ∷ codes "to" ∷ place_text s.x2 s.y2 ∷ [])) ++ words_on rest
span_then_by s rest true h = place_then s.x1 s.y1 rest h.x1 h.y1
span_then_by s rest false h =
    let second = place_text s.x2 s.y2 ++ (codes "  " ++ rest) in
    ap words_on (append_assoc (place_text s.x1 s.y1) (codes " to " ++ place_text s.x2 s.y2) (codes "  " ++ rest))
    ∙ (word_then (place_text s.x1 s.y1) (codes "to " ++ second) (plain_place s.x1 s.y1 h.x1 h.y1)
    ∙ more (place_text s.x1 s.y1) (known_then (codes "to") second refl refl
    ∙ more (codes "to") (place_then s.x2 s.y2 rest h.x2 h.y2)))

node_words : (k : Kind) (s : Span) (l : Label) (n : ℕ) → IsClearSpan s → n < 2 ^ 64 → words_on (bytes_on (NodeLine k s l n)) ≡ line_words (NodeLine k s l n)
unfolding bytes_on span_text
node_words k s l n h m =
    kind_words k (span_text s ++ (codes "  " ++ (label_text l ++ decimal n)))
    ∙ more (kind_word k) (span_then_by s (label_text l ++ decimal n) (is_one_place s) h ∙ ap (λ (ws : List (List ℕ)). span_words s ++ ws) (label_words l n m))

-- what the words of a line are
pub words_on_line : (l : TextLine) → IsClear l → words_on (bytes_on l) ≡ line_words l
unfolding bytes_on
words_on_line (Size nx ny) h = size_words nx ny h.0 h.1
words_on_line Blank h = refl
words_on_line Heading h = known_last (codes "Routing:") refl refl
words_on_line (RoutedNet number name) h = net_words number name h.0 h.1
words_on_line (GlobalNet number name) h = global_words number name h.0 h.1
words_on_line (Block name number x y class) h = block_words name number x y class h
words_on_line (NodeLine k s l n) h = node_words k s l n h.0 h.1

span_ends : (b : Bool) (k p q v w : List ℕ) → goes_on (k ∷ ((if b then p ∷ [] else (p ∷ codes "to" ∷ q ∷ [])) ++ (v ∷ w ∷ []))) ≡ ends_in_backslash w
span_ends true k p q v w = refl
span_ends false k p q v w = refl

-- no line goes on in the next one
pub ends_there : (l : TextLine) → IsClear l → goes_on (line_words l) ≡ false
ends_there (Size nx ny) h = refl
ends_there Blank h = refl
ends_there Heading h = refl
ends_there (RoutedNet number name) h = closed (40 ∷ name) 41
ends_there (GlobalNet number name) h = refl
ends_there (Block name number x y class) h = refl
ends_there (NodeLine k s l n) h =
    span_ends (is_one_place s) (kind_word k) (place_text s.x1 s.y1) (place_text s.x2 s.y2) (label_word l) (decimal n) ∙ number_ends n h.1

-- ---- the bytes of a line

fine_number : (n : ℕ) → n < 2 ^ 64 → are_fine (decimal n) ≡ true
fine_number n h = fine_plain (decimal n) (plain_number n h).plain

fine_place : (x y : ℕ) → x < 2 ^ 64 → y < 2 ^ 64 → are_fine (place_text x y) ≡ true
fine_place x y h k = fine_plain (place_text x y) (plain_place x y h k).plain

fine_kind : (k : Kind) → are_fine (kind_field k) ≡ true
fine_kind kind.Source = refl
fine_kind kind.Sink = refl
fine_kind kind.Opin = refl
fine_kind kind.Ipin = refl
fine_kind kind.Chanx = refl
fine_kind kind.Chany = refl

fine_label : (l : Label) → are_fine (label_text l) ≡ true
fine_label label.Class = refl
fine_label label.Pin = refl
fine_label label.Pad = refl
fine_label label.Track = refl

fine : (xs ys : List ℕ) → are_fine xs ≡ true → are_fine ys ≡ true → are_fine (xs ++ ys) ≡ true
fine xs ys h k = all_append is_fine xs ys h k

-- what stands in a comment is not read, and has no limits
fine_digit : (b : ℕ) → 48 ≤ b → b ≤ 57 → is_fine b ≡ true
fine_digit b low high = grind (arith, nat_tests)

fine_digits : (n : ℕ) → are_fine (decimal n) ≡ true
fine_digits n = all_digits is_fine fine_digit n

fine_comment_place : (x y : ℕ) → are_fine (place_text x y) ≡ true
unfolding place_text
fine_comment_place x y = fine (decimal x) (44 ∷ (decimal y ++ 41 ∷ [])) (fine_digits x) (fine (decimal y) (41 ∷ []) (fine_digits y) refl)

fine_class : (class : Option ℕ) → are_fine (class_text class) ≡ true
fine_class (Some class) = fine_digits class
fine_class None = refl

fine_span : (s : Span) (b : Bool) → IsClearSpan s → are_fine (if b then place_text s.x1 s.y1 else (place_text s.x1 s.y1 ++ (codes " to " ++ place_text s.x2 s.y2))) ≡ true
fine_span s true h = fine_place s.x1 s.y1 h.x1 h.y1
fine_span s false h =
    fine (place_text s.x1 s.y1) (codes " to " ++ place_text s.x2 s.y2) (fine_place s.x1 s.y1 h.x1 h.y1)
    (fine (codes " to ") (place_text s.x2 s.y2) refl (fine_place s.x2 s.y2 h.x2 h.y2))

-- no line ends within a line, and no byte of it is bad
pub fine_line : (l : TextLine) → IsClear l → are_fine (bytes_on l) ≡ true
unfolding bytes_on span_text
fine_line (Size nx ny) h =
    let from_ny = decimal ny ++ codes " logic blocks." in
    fine (codes "Array size: ") (decimal nx ++ (codes " x " ++ from_ny)) refl
    (fine (decimal nx) (codes " x " ++ from_ny) (fine_number nx h.0)
    (fine (codes " x ") from_ny refl (fine (decimal ny) (codes " logic blocks.") (fine_number ny h.1) refl)))
fine_line Blank h = refl
fine_line Heading h = refl
fine_line (RoutedNet number name) h =
    let from_name = name ++ codes ")" in
    fine (codes "Net ") (decimal number ++ (codes " (" ++ from_name)) refl
    (fine (decimal number) (codes " (" ++ from_name) (fine_number number h.0)
    (fine (codes " (") from_name refl (fine name (codes ")") (fine_plain name h.1) refl)))
fine_line (GlobalNet number name) h =
    let from_name = name ++ codes "): global net connecting:" in
    fine (codes "Net ") (decimal number ++ (codes " (" ++ from_name)) refl
    (fine (decimal number) (codes " (" ++ from_name) (fine_number number h.0)
    (fine (codes " (") from_name refl (fine name (codes "): global net connecting:") (fine_plain name h.1) refl)))
fine_line (Block name number x y class) h =
    let from_class = class_text class ++ codes "." in
    let from_place = place_text x y ++ (codes ", pinclass " ++ from_class) in
    let from_number = decimal number ++ (codes ") at " ++ from_place) in
    fine (codes "Block ") (name ++ (codes " (#" ++ from_number)) refl
    (fine name (codes " (#" ++ from_number) (fine_plain name h.plain)
    (fine (codes " (#") from_number refl
    (fine (decimal number) (codes ") at " ++ from_place) (fine_digits number)
    (fine (codes ") at ") from_place refl
    (fine (place_text x y) (codes ", pinclass " ++ from_class) (fine_comment_place x y)
    (fine (codes ", pinclass ") from_class refl (fine (class_text class) (codes ".") (fine_class class) refl)))))))
fine_line (NodeLine k s l n) h =
    let from_label = label_text l ++ decimal n in
    fine (kind_field k) (codes " " ++ (span_text s ++ (codes "  " ++ from_label))) (fine_kind k)
    (fine (codes " ") (span_text s ++ (codes "  " ++ from_label)) refl
    (fine (span_text s) (codes "  " ++ from_label) (fine_span s (is_one_place s) h.0)
    (fine (codes "  ") from_label refl (fine (label_text l) (decimal n) (fine_label l) (fine_number n h.1)))))
