-- The node that a line tells is found by where it begins.
use Rattle.std.proofs.Common.{◌≡◌, ℕ, ◌+◌, ◌<◌, ◌≤◌, min, Bool, true, false, ◌&&◌, cond, eqb, List, [], ◌∷◌, length, Option, Some, None, refl, sym, ap, ◌∙◌, arith}
use Rattle.std.specs.List.{position_from}
use Rattle.std.specs.Option.{option_map_or}
use Rattle.std.proofs.lemmas.Bool.{ne_eqb, eq-eqb, and_parts, and_from}
use Rattle.std.proofs.lemmas.Bool.Decides.{nat_tests}
use Rattle.std.proofs.lemmas.Iterator.Adapters.{position_from-zero}
use Rattle.std.proofs.Math.Bool.{and-false, and-true}
use Rattle.rr_graph.specs.node.Kind.{Kind}
use Rattle.rr_graph.specs.node.Kind.TheVariants.{Source, Sink, Opin, Ipin, Chanx, Chany}
use Rattle.rr_graph.specs.node.Node.{Node}
use Rattle.rr_graph.specs.node.Span.{Span}
use Rattle.rr_graph.specs.Fabric.{Fabric}
use Rattle.rr_graph.specs.Nodes.{nodes_of, node_at, number_of, is_same, rank_of_kind, label_of, span_of, span_by}
use Rattle.rr_graph.proofs.Order.{is_same-true}
use Rattle.route_file.specs.declared.node_line.NodeText.{NodeText}
use Rattle.route_file.specs.kept.NodeTexts.{beginning_of, is_reported_at}
use Rattle.route_file.specs.NodeLine.{text_of, is_place_line, is_span_line, are_ends, same_label, is_reported, node_reported}

-- nine words are no node's line
pub too_long : (words : List (List ℕ)) → 8 < length words → text_of words ≡ None
unfolding text_of is_place_line is_span_line
too_long words long =
    let five : eqb (length words) 5 ≡ false = ne_eqb (length words) 5 (λ e. absurd (omega (arith, e, long))) in
    let eight : eqb (length words) 8 ≡ false = ne_eqb (length words) 8 (λ e. absurd (omega (arith, e, long))) in
    rw (five, eight) refl

-- ---- a node begins at the lower of its two ends

record Rises (n : Node) (s : Span) : Type 0 where
  x1 : s.x1 ≡ n.x
  y1 : s.y1 ≡ n.y
  x2 : s.x1 ≤ s.x2
  y2 : s.y1 ≤ s.y2

span_rises : (k : Kind) (f : Fabric) (n : Node) → Rises n (span_by k f n)
span_rises Source f n = record { x1 = refl; y1 = refl; x2 = omega arith; y2 = omega arith }
span_rises Sink f n = record { x1 = refl; y1 = refl; x2 = omega arith; y2 = omega arith }
span_rises Opin f n = record { x1 = refl; y1 = refl; x2 = omega arith; y2 = omega arith }
span_rises Ipin f n = record { x1 = refl; y1 = refl; x2 = omega arith; y2 = omega arith }
span_rises Chanx f n = record { x1 = refl; y1 = refl; x2 = omega arith; y2 = omega arith }
span_rises Chany f n = record { x1 = refl; y1 = refl; x2 = omega arith; y2 = omega arith }

lower_end : (s : Span) (t : NodeText) → are_ends s t ≡ true → s.x1 ≤ s.x2 → s.y1 ≤ s.y2 → (min t.x1 t.x2 ≡ s.x1) × (min t.y1 t.y2 ≡ s.y1)
unfolding are_ends
lower_end s t e x y = (grind (arith, nat_tests, e, x, y), grind (arith, nat_tests, e, x, y))

-- ---- the node reported is the one that begins there

all_same : (f : Fabric) (t : NodeText) (m : Node) → is_reported f t m ≡ true → is_same m (beginning_of t) ≡ true
unfolding is_reported is_same
all_same f t m e =
    let kind = eqb (rank_of_kind m.kind) (rank_of_kind t.kind) in
    let number = eqb m.number t.number in
    let ends = are_ends (span_of f m) t in
    let first = and_parts (kind && number && ends) (same_label (label_of f m) t.label) e in
    let second = and_parts (kind && number) ends first.0 in
    let third = and_parts kind number second.0 in
    let rises = span_rises m.kind f m in
    let low = lower_end (span_of f m) t second.1 rises.x2 rises.y2 in
    let x : eqb m.x (min t.x1 t.x2) ≡ true = eq-eqb m.x (min t.x1 t.x2) (sym (low.0 ∙ rises.x1)) in
    let y : eqb m.y (min t.y1 t.y2) ≡ true = eq-eqb m.y (min t.y1 t.y2) (sym (low.1 ∙ rises.y1)) in
    and_from (kind && eqb m.x (min t.x1 t.x2)) (eqb m.y (min t.y1 t.y2) && number)
    (and_from kind (eqb m.x (min t.x1 t.x2)) third.0 x)
    (and_from (eqb m.y (min t.y1 t.y2)) number y third.1)

told_by : (f : Fabric) (t : NodeText) (m : Node) (reported same : Bool) → is_reported f t m ≡ reported → is_same m (beginning_of t) ≡ same → reported ≡ (same && is_reported f t (beginning_of t))
told_by f t m true true reported same = sym reported ∙ ap (is_reported f t) (is_same-true m (beginning_of t) same)
told_by f t m false true reported same = sym reported ∙ ap (is_reported f t) (is_same-true m (beginning_of t) same)
told_by f t m true false reported same = sym (all_same f t m reported) ∙ same
told_by f t m false false reported same = refl

reported_each : (f : Fabric) (t : NodeText) (m : Node) → is_reported f t m ≡ (is_same m (beginning_of t) && is_reported f t (beginning_of t))
reported_each f t m = told_by f t m (is_reported f t m) (is_same m (beginning_of t)) refl refl

place_by : {X : Type 0} (p q : X → Bool) (b : Bool) (k : ℕ) (xs : List X) → ((x : X) → p x ≡ (q x && b)) → position_from p k xs ≡ cond b (position_from q k xs) None
place_by p q true k [] h = refl
place_by p q false k [] h = refl
place_by p q true k (x ∷ xs) h = ap (λ t. cond t (Some k) (position_from p (k + 1) xs)) (h x ∙ and-true (q x)) ∙ ap (cond (q x) (Some k)) (place_by p q true (k + 1) xs h)
place_by p q false k (x ∷ xs) h = ap (λ t. cond t (Some k) (position_from p (k + 1) xs)) (h x ∙ and-false (q x)) ∙ place_by p q false (k + 1) xs h

-- the node that begins at the lower end, if it is reported
pub reported_is : (f : Fabric) (t : NodeText) → node_reported f t ≡ cond (is_reported f t (beginning_of t)) (number_of f (beginning_of t)) None
unfolding node_reported
reported_is f t =
    position_from-zero (is_reported f t) (nodes_of f)
    ∙ place_by (is_reported f t) (λ m. is_same m (beginning_of t)) (is_reported f t (beginning_of t)) 0 (nodes_of f) (reported_each f t)
    ∙ ap (λ r. cond (is_reported f t (beginning_of t)) r None) (sym (position_from-zero (λ m. is_same m (beginning_of t)) (nodes_of f)))

cond_none : {X : Type 0} (b : Bool) → cond b None None ≡ (let none : Option X = None in none)
cond_none true = refl
cond_none false = refl

pub reported_nowhere : (f : Fabric) (t : NodeText) → number_of f (beginning_of t) ≡ None → node_reported f t ≡ None
reported_nowhere f t e = reported_is f t ∙ ap (λ r. cond (is_reported f t (beginning_of t)) r None) e ∙ cond_none (is_reported f t (beginning_of t))

reported_here : (f : Fabric) (t : NodeText) (id : ℕ) → node_at f id ≡ Some (beginning_of t) → is_reported f t (beginning_of t) ≡ is_reported_at f t id
unfolding is_reported
reported_here f t id e =
    let rank : eqb (rank_of_kind t.kind) (rank_of_kind t.kind) ≡ true = eq-eqb _ _ refl in
    let number : eqb t.number t.number ≡ true = eq-eqb _ _ refl in
    rw (rank, number) (sym (ap (λ n. option_map_or (λ n. are_ends (span_of f n) t && same_label (label_of f n) t.label) n false) e))

pub reported_by_beginning : (f : Fabric) (t : NodeText) (id : ℕ) (b : Bool) → number_of f (beginning_of t) ≡ Some id → node_at f id ≡ Some (beginning_of t) → b ≡ is_reported_at f t id → node_reported f t ≡ cond b (Some id) None
reported_by_beginning f t id b e at is =
    reported_is f t ∙ ap (λ r. cond (is_reported f t (beginning_of t)) r None) e ∙ ap (λ s. cond s (Some id) None) (reported_here f t id at ∙ sym is)

pub reported_yes : (f : Fabric) (t : NodeText) (id : ℕ) → number_of f (beginning_of t) ≡ Some id → node_at f id ≡ Some (beginning_of t) → is_reported_at f t id ≡ true → node_reported f t ≡ Some id
reported_yes f t id e at is = reported_by_beginning f t id true e at (sym is)

pub reported_no : (f : Fabric) (t : NodeText) (id : ℕ) → number_of f (beginning_of t) ≡ Some id → node_at f id ≡ Some (beginning_of t) → is_reported_at f t id ≡ false → node_reported f t ≡ None
reported_no f t id e at is = reported_by_beginning f t id false e at (sym is)
