-- The lines of the nodes that are named for pairs.
use Rattle.std.proofs.Common.{◌≡◌, ℕ, ◌+◌, ◌<◌, List, [], ◌∷◌, ◌++◌, length, get_or, drop, Option, Some, None, refl, sym, ap, ◌∙◌}
use Rattle.std.specs.List.{flat_map}
use Rattle.std.specs.Option.{option_map}
use Rattle.std.proofs.lemmas.List.{append-nil}
use Rattle.std.proofs.lemmas.Grind.{flat_map-append}
use Rattle.rr_graph.specs.node.Node.{Node}
use Rattle.rr_graph.specs.node.Label.{Label}
use Rattle.rr_graph.specs.node.Span.{Span}
use Rattle.rr_graph.specs.Fabric.{Fabric}
use Rattle.rr_graph.specs.Nodes.{node_at, label_of, span_of}
use Rattle.route_tree.specs.Paths.{Pair}
use Rattle.route_file.specs.TextLine.{NodeLine, line_text}
use Rattle.route_file.specs.PrintedNodes.{nodes_for, nodes_after}
use Rattle.route_file.specs.Text.{node_lines, lines_of_node}
use Rattle.route_file.proofs.Sending.{drop_next}

-- the text of the lines of nodes
abbrev pub nodes_text : Fabric → List ℕ → List ℕ
nodes_text f nodes = flat_map line_text (flat_map (node_lines f) nodes)

pub nodes_text-append : (f : Fabric) (xs ys : List ℕ) → nodes_text f (xs ++ ys) ≡ nodes_text f xs ++ nodes_text f ys
nodes_text-append f xs ys =
    ap (flat_map line_text) (flat_map-append (node_lines f) xs ys) ∙ flat_map-append line_text (flat_map (node_lines f) xs) (flat_map (node_lines f) ys)

pub one_node : (f : Fabric) (a : ℕ) → flat_map line_text (node_lines f a) ≡ nodes_text f (a ∷ [])
one_node f a = ap (flat_map line_text) (sym (append-nil (node_lines f a)))

pub two_nodes : (f : Fabric) (a b : ℕ) → flat_map line_text (node_lines f a) ++ flat_map line_text (node_lines f b) ≡ nodes_text f (a ∷ b ∷ [])
two_nodes f a b =
    ap (λ (t : List ℕ). flat_map line_text (node_lines f a) ++ t) (one_node f b) ∙ sym (flat_map-append line_text (node_lines f a) (flat_map (node_lines f) (b ∷ [])))

-- the nodes of the pairs from place i on
pub pairs_next : (f : Fabric) (before : Option ℕ) (pairs : List Pair) (i : ℕ) (d : Pair) → i < length pairs
    → nodes_text f (nodes_after f before (drop i pairs))
    ≡ nodes_text f (nodes_for f before (get_or pairs i d)) ++ nodes_text f (nodes_after f (Some (get_or pairs i d).1) (drop (i + 1) pairs))
pairs_next f before pairs i d within =
    ap (λ (ps : List Pair). nodes_text f (nodes_after f before ps)) (drop_next pairs i d within)
    ∙ nodes_text-append f (nodes_for f before (get_or pairs i d)) (nodes_after f (Some (get_or pairs i d).1) (drop (i + 1) pairs))

pub some_is : {A B : Type 0} (g : A → B) (o : Option A) (a : A) (b : B) → Some a ≡ o → Some b ≡ option_map g o → b ≡ g a
some_is {A} {B} g o a b e f =
    let h : Some b ≡ option_map g (Some a) = f ∙ ap (option_map g) (sym e) in cc

-- what is printed for a node is its line
pub line_of_node : (f : Fabric) (a : ℕ) (n : Node) (s : Span) (l : Label)
    → Some n ≡ node_at f a → s ≡ span_of f n → l ≡ label_of f n
    → line_text (NodeLine n.kind s l n.number) ≡ flat_map line_text (node_lines f a)
unfolding node_lines
line_of_node f a n s l e s-is l-is =
    let same : line_text (NodeLine n.kind s l n.number) ≡ line_text (NodeLine n.kind (span_of f n) (label_of f n) n.number) = rw (s-is, l-is) refl in
    same ∙ (sym (append-nil (line_text (NodeLine n.kind (span_of f n) (label_of f n) n.number))) ∙ ap (λ o. flat_map line_text (lines_of_node f o)) e)

-- what is no node has no line
pub no_line : (f : Fabric) (a : ℕ) → None ≡ node_at f a → [] ≡ flat_map line_text (node_lines f a)
unfolding node_lines
no_line f a e = ap (λ o. flat_map line_text (lines_of_node f o)) e
