-- The listing of a device: how many nodes and edges there are, a line for each node by number, and
-- a line for each edge in ascending order; with the types of wires, if they are asked for (ours).
use Rattle.std.specs.Prelude.{ℕ, Bool, List, [], ◌++◌, Option, Some, None}
use Rattle.std.specs.List.{flat_map}
use Rattle.rr_graph.specs.node.Node.{Node}
use Rattle.rr_graph.specs.Fabric.{Fabric, numbers_below}
use Rattle.rr_graph.specs.Nodes.{node_at, node_count_of}
use Rattle.rr_graph.specs.Edges.{successors_of, edge_count_of}
use Rattle.runs.specs.Texts.{counts_line, node_line, edge_line}

abbrev pub line_of : (is_typed : Bool) → Fabric → ℕ → Option Node → List ℕ
line_of is_typed f i None = []
line_of is_typed f i (Some n) = node_line is_typed f i n

-- the line of node i
unfoldable pub line_at : (is_typed : Bool) → Fabric → ℕ → List ℕ
line_at is_typed f i = line_of is_typed f i (node_at f i)

-- the lines of the edges that lead from node i
unfoldable pub edge_lines_at : (is_typed : Bool) → Fabric → ℕ → List ℕ
edge_lines_at is_typed f i = flat_map (edge_line is_typed f i) (successors_of f i)

unfoldable pub listing_of : (is_typed : Bool) → Fabric → List ℕ
listing_of is_typed f =
    counts_line (node_count_of f) (edge_count_of f)
    ++ (flat_map (line_at is_typed f) (numbers_below (node_count_of f))
    ++ flat_map (edge_lines_at is_typed f) (numbers_below (node_count_of f)))
