-- The edges of a device (Betz, Rose and Marquardt 1999, "routing-resource graph"; VPR and T-VPack
-- manual 4.30, "switch_block_type subset").
use Rattle.std.specs.Prelude.{ℕ, ◌-◌, ◌==◌, Bool, ◌&&◌, not, false, List, [], ◌∷◌, length, Option, Some}
use Rattle.std.specs.List.{flat_map, filter, list_any, sum_by}
use Rattle.channel_tables.specs.declared.node.Kind.{Kind}
use Rattle.channel_tables.specs.declared.node.Kind.TheVariants.{Source, Sink, Opin, Ipin, Chanx, Chany}
use Rattle.channel_tables.specs.declared.node.Node.{Node}
use Rattle.channel_tables.specs.Fabric.{Fabric, numbers_below}
use Rattle.channel_tables.specs.Wires.{places_of}
use Rattle.channel_tables.specs.Pins.{taps, belongs}
use Rattle.node_numbers.specs.Nodes.{node_at, node_count_of, is_same}

-- a corner, where channels meet: the one above and right of the block at (x, y)
abbrev pub Corner : Type 0
Corner = ℕ × ℕ

abbrev pub corners_by : Kind → Fabric → Node → List Corner
corners_by Chanx f n = flat_map (λ x. (x - 1, n.y) ∷ (x, n.y) ∷ []) (places_of f f.nx n.number n.x)
corners_by Chany f n = flat_map (λ y. (n.x, y - 1) ∷ (n.x, y) ∷ []) (places_of f f.ny n.number n.y)
corners_by _ f n = []

-- the corners that a wire touches: each place of it touches the two at its ends
unfoldable pub corners_of : Fabric → Node → List Corner
corners_of f n = corners_by n.kind f n

abbrev pub is_same_corner : Corner → Corner → Bool
is_same_corner c d = c.0 == d.0 && c.1 == d.1

unfoldable pub touches : Fabric → Node → Corner → Bool
touches f n c = list_any (is_same_corner c) (corners_of f n)

-- two different wires of one track that touch a common corner
unfoldable pub joins : Fabric → (a b : Node) → Bool
joins f a b = (not (is_same a b) && a.number == b.number) && list_any (touches f b) (corners_of f a)

abbrev pub edge_by : Kind → Kind → Fabric → (a b : Node) → Bool
edge_by Source Opin f a b = belongs f b a
edge_by Opin Chanx f a b = taps f a b
edge_by Opin Chany f a b = taps f a b
edge_by Chanx Ipin f a b = taps f b a
edge_by Chany Ipin f a b = taps f b a
edge_by Ipin Sink f a b = belongs f a b
edge_by Chanx Chanx f a b = joins f a b
edge_by Chanx Chany f a b = joins f a b
edge_by Chany Chanx f a b = joins f a b
edge_by Chany Chany f a b = joins f a b
edge_by _ _ f a b = false

-- an edge leads from a to b
unfoldable pub is_edge : Fabric → (a b : Node) → Bool
is_edge f a b = edge_by a.kind b.kind f a b

abbrev pub edge_between_nodes : Fabric → Option Node → Option Node → Bool
edge_between_nodes f (Some a) (Some b) = is_edge f a b
edge_between_nodes f _ _ = false

-- an edge leads from node i to node j; none where one of them is no node
unfoldable pub edge_between : Fabric → (i j : ℕ) → Bool
edge_between f i j = edge_between_nodes f (node_at f i) (node_at f j)

-- the nodes to which an edge leads from node i, ascending
unfoldable pub successors_of : Fabric → ℕ → List ℕ
successors_of f i = filter (edge_between f i) (numbers_below (node_count_of f))

unfoldable pub edge_count_of : Fabric → ℕ
edge_count_of f = sum_by (λ i. length (successors_of f i)) (numbers_below (node_count_of f))
