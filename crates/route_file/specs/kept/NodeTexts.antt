-- How the words of a node's line are cut, how the node that a line gives is found, and what is kept
-- from the lines so far.
use Rattle.std.specs.Prelude.{◌≡◌, ℕ, ◌<◌, min, Bool, true, false, ◌&&◌, List, [], ◌∷◌, ◌++◌, length, Option, Some, None}
use Rattle.std.specs.Option.{option_map_or}
use Rattle.rr_graph.specs.node.Node.{Node}
use Rattle.rr_graph.specs.Fabric.{Fabric}
use Rattle.rr_graph.specs.Nodes.{node_at, label_of, span_of}
use Rattle.route_file.specs.declared.node_line.NodeText.{NodeText}
use Rattle.route_file.specs.NodeLine.{are_ends, same_label}
use Rattle.route_file.specs.NodeWords.{pieces_of}
use denote.Ref.{Bor}

-- the word has no piece, or it is cut into its first piece and what comes after it, which is
-- shorter
pub record IsCut (word piece rest : List ℕ) : Type 0 where
  pub pieces : pieces_of word ≡ piece ∷ pieces_of rest
  pub shorter : length rest < length word

abbrev pub CutsPiece : List ℕ → Option (Bor (List ℕ) × Bor (List ℕ)) → Type 0
CutsPiece word None = pieces_of word ≡ []
CutsPiece word (Some cut) = IsCut word cut.0.now cut.1.now

-- the pieces were added to the words, if all of them together are at most eight
abbrev pub CutsWords : (old new pieces : List (List ℕ)) → Bool → Type 0
CutsWords old new pieces true = new ≡ old ++ pieces
CutsWords old new pieces false = 8 < length (old ++ pieces)

-- the node that begins at the lower end
abbrev pub beginning_of : NodeText → Node
beginning_of t = record { kind = t.kind; x = min t.x1 t.x2; y = min t.y1 t.y2; number = t.number }

-- node id lies between the ends that are reported, and has the label
abbrev pub is_reported_at : Fabric → NodeText → ℕ → Bool
is_reported_at f t id = option_map_or (λ n. are_ends (span_of f n) t && same_label (label_of f n) t.label) (node_at f id) false
