-- The line of a node is read as the node.
use Rattle.std.proofs.Common.{◌≡◌, ℕ, ◌^◌, ◌<◌, Bool, true, false, eqb, min, ◌&&◌, Some, refl, sym, ap, ◌∙◌, arith}
use Rattle.std.specs.Prelude.{option_and_then}
use Rattle.std.specs.Option.{option_map_or}
use Rattle.std.proofs.lemmas.Bool.{eqb-true, eq-eqb, false≢true, and_parts}
use Rattle.rr_graph.specs.node.Kind.{Kind}
use Rattle.rr_graph.specs.node.Kind.TheVariants as kind
use Rattle.rr_graph.specs.node.Label.{Label}
use Rattle.rr_graph.specs.node.Node.{Node}
use Rattle.rr_graph.specs.node.Span.{Span}
use Rattle.rr_graph.specs.Fabric.{Fabric, IsFabric, is_block}
use Rattle.rr_graph.specs.Nodes.{node_at, number_of, label_of, span_of, span_by}
use Rattle.rr_graph.proofs.Order.{number_of_node}
use Rattle.route_file.specs.declared.node_line.NodeText.{NodeText}
use Rattle.route_file.specs.kept.NodeTexts.{beginning_of, is_reported_at}
use Rattle.route_file.specs.NodeWords.{node_words}
use Rattle.route_file.specs.NodeLine.{is_wire, are_ends, same_label, rank_of_label, text_of, node_reported, node_on}
use Rattle.route_file.specs.TextLine.{NodeLine}
use Rattle.text_output.specs.NodeTexts.{is_one_place}
use Rattle.route_file.proofs.LineWords.{IsClearSpan, line_words}
use Rattle.route_file.proofs.ReadNodes.{label_taken, words_of_node, node_words_cut}
use Rattle.route_file.proofs.ReadNodeText.{text_with, place_read, span_read}
use Rattle.route_file.proofs.Reported.{reported_yes}

-- the numbers that are printed of a node are such as are read
pub record IsSmall (f : Fabric) (n : Node) : Type 0 where
  pub x1 : (span_of f n).x1 < 2 ^ 32
  pub y1 : (span_of f n).y1 < 2 ^ 32
  pub x2 : (span_of f n).x2 < 2 ^ 32
  pub y2 : (span_of f n).y2 < 2 ^ 32
  pub number : n.number < 2 ^ 32

pub clear_span : (f : Fabric) (n : Node) → IsSmall f n → IsClearSpan (span_of f n)
clear_span f n h = record { x1 = omega (arith, h.x1); y1 = omega (arith, h.y1); x2 = omega (arith, h.x2); y2 = omega (arith, h.y2) }

-- what is reported of a node
abbrev pub text_for : Fabric → Node → NodeText
text_for f n = text_with n.kind (label_of f n) (span_of f n).x1 (span_of f n).y1 (span_of f n).x2 (span_of f n).y2 n.number

same : (a : ℕ) → eqb a a ≡ true
same a = eq-eqb a a refl

-- what is no wire has one place
wide_wire : (k : Kind) (f : Fabric) (n : Node) → is_one_place (span_by k f n) ≡ false → is_wire k ≡ true
unfolding is_wire
wide_wire kind.Source f n e = absurd (false≢true (sym e ∙ (ap (λ t. t && eqb n.y n.y) (same n.x) ∙ same n.y)))
wide_wire kind.Sink f n e = absurd (false≢true (sym e ∙ (ap (λ t. t && eqb n.y n.y) (same n.x) ∙ same n.y)))
wide_wire kind.Opin f n e = absurd (false≢true (sym e ∙ (ap (λ t. t && eqb n.y n.y) (same n.x) ∙ same n.y)))
wide_wire kind.Ipin f n e = absurd (false≢true (sym e ∙ (ap (λ t. t && eqb n.y n.y) (same n.x) ∙ same n.y)))
wide_wire kind.Chanx f n e = refl
wide_wire kind.Chany f n e = refl

text_by : (f : Fabric) (n : Node) (one : Bool) → is_one_place (span_of f n) ≡ one → IsSmall f n → text_of (words_of_node one n.kind (span_of f n) (label_of f n) n.number) ≡ Some (text_for f n)
text_by f n true e h =
    let s = span_of f n in
    let taken = label_taken n.kind (is_block f n.x n.y) in
    let ends = and_parts (eqb s.x1 s.x2) (eqb s.y1 s.y2) e in
    place_read n.kind (label_of f n) s.x1 s.y1 n.number h.x1 h.y1 h.number taken
    ∙ (ap (λ (x : ℕ). Some (text_with n.kind (label_of f n) s.x1 s.y1 x s.y1 n.number)) (eqb-true s.x1 s.x2 ends.0)
    ∙ ap (λ (y : ℕ). Some (text_with n.kind (label_of f n) s.x1 s.y1 s.x2 y n.number)) (eqb-true s.y1 s.y2 ends.1))
text_by f n false e h =
    let s = span_of f n in
    span_read n.kind (label_of f n) s.x1 s.y1 s.x2 s.y2 n.number h.x1 h.y1 h.x2 h.y2 h.number (label_taken n.kind (is_block f n.x n.y)) (wide_wire n.kind f n e)

text_reported : (f : Fabric) (n : Node) → IsSmall f n → text_of (node_words (line_words (NodeLine n.kind (span_of f n) (label_of f n) n.number))) ≡ Some (text_for f n)
text_reported f n h =
    ap text_of (node_words_cut n.kind (span_of f n) (label_of f n) n.number (clear_span f n h) (omega (arith, h.number))) ∙ text_by f n (is_one_place (span_of f n)) refl h

begins_by : (k : Kind) (f : Fabric) (n : Node) → (min (span_by k f n).x1 (span_by k f n).x2 ≡ n.x) × (min (span_by k f n).y1 (span_by k f n).y2 ≡ n.y)
begins_by kind.Source f n = (omega arith, omega arith)
begins_by kind.Sink f n = (omega arith, omega arith)
begins_by kind.Opin f n = (omega arith, omega arith)
begins_by kind.Ipin f n = (omega arith, omega arith)
begins_by kind.Chanx f n = (omega arith, omega arith)
begins_by kind.Chany f n = (omega arith, omega arith)

beginning : (f : Fabric) (n : Node) → beginning_of (text_for f n) ≡ n
beginning f n =
    let e = begins_by n.kind f n in
    ap (λ (x : ℕ). record { kind = n.kind; x = x; y = min (span_of f n).y1 (span_of f n).y2; number = n.number }) e.0
    ∙ ap (λ (y : ℕ). record { kind = n.kind; x = n.x; y = y; number = n.number }) e.1

ends_reported : (s : Span) (t : NodeText) → t.x1 ≡ s.x1 → t.y1 ≡ s.y1 → t.x2 ≡ s.x2 → t.y2 ≡ s.y2 → are_ends s t ≡ true
unfolding are_ends
ends_reported s t a b c d = rw (a, b, c, d, same s.x1, same s.y1, same s.x2, same s.y2) refl

label_reported : (l : Label) → same_label l l ≡ true
label_reported l = same (rank_of_label l)

reported_there : (f : Fabric) (a : ℕ) (n : Node) → node_at f a ≡ Some n → is_reported_at f (text_for f n) a ≡ true
reported_there f a n e =
    ap (λ o. option_map_or (λ (m : Node). are_ends (span_of f m) (text_for f n) && same_label (label_of f m) (label_of f n)) o false) e
    ∙ (ap (λ t. t && same_label (label_of f n) (label_of f n)) (ends_reported (span_of f n) (text_for f n) refl refl refl refl) ∙ label_reported (label_of f n))

-- the line of a node is read as its number
pub node_read : (f : Fabric) → IsFabric f → (a : ℕ) (n : Node) → node_at f a ≡ Some n → IsSmall f n → node_on f (line_words (NodeLine n.kind (span_of f n) (label_of f n) n.number)) ≡ Some a
unfolding node_on
node_read f l a n e h =
    let begins = beginning f n in
    let number : number_of f (beginning_of (text_for f n)) ≡ Some a = ap (number_of f) begins ∙ number_of_node f l a n e in
    let there : node_at f a ≡ Some (beginning_of (text_for f n)) = e ∙ ap Some (sym begins) in
    ap (option_and_then (node_reported f)) (text_reported f n h) ∙ reported_yes f (text_for f n) a number there (reported_there f a n e)
