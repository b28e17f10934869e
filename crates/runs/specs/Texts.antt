-- The lines of a listing (ours).
use Rattle.std.specs.Prelude.{ℕ, Bool, List, ◌++◌, codes, decimal}
use Rattle.rr_graph.specs.node.Node.{Node}
use Rattle.rr_graph.specs.Fabric.{Fabric}
use Rattle.rr_graph.specs.Nodes.{label_of, span_of, capacity_of}
use Rattle.text_output.specs.NodeTexts.{node_text}
use Rattle.runs.specs.ListedTypes.{if_asked, switch_text, type_text}

-- the line of a node in the listing, as `37 CHANX (1,0) Track: 0 cap 1`, and with types
-- `37 CHANX (1,0) Track: 0 cap 1 type 0`
unfoldable pub node_line : (is_typed : Bool) → Fabric → ℕ → Node → List ℕ
node_line is_typed f id n =
    decimal id ++ (codes " " ++ (node_text n.kind (span_of f n) (label_of f n) n.number
    ++ (codes " cap " ++ (decimal (capacity_of f n) ++ (if_asked is_typed (type_text f n) ++ codes "\n")))))

-- the line of an edge, as `0 -> 18`, and with types `22 -> 40 switch 0`
unfoldable pub edge_line : (is_typed : Bool) → Fabric → (a b : ℕ) → List ℕ
edge_line is_typed f a b =
    decimal a ++ (codes " -> " ++ (decimal b ++ (if_asked is_typed (switch_text f a b) ++ codes "\n")))

-- the first line, as `41 nodes, 46 edges`
unfoldable pub counts_line : (nodes edges : ℕ) → List ℕ
counts_line nodes edges = decimal nodes ++ (codes " nodes, " ++ (decimal edges ++ codes " edges\n"))
