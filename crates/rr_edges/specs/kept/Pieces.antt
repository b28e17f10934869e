-- The successors of a node, by kind and by place.
use Rattle.std.specs.Prelude.{ℕ, ◌+◌, List}
use Rattle.std.specs.List.{flat_map}
use Rattle.channel_tables.specs.declared.node.Kind.{Kind}
use Rattle.channel_tables.specs.declared.node.Node.{Node}
use Rattle.channel_tables.specs.Fabric.{Fabric, numbers_below}
use Rattle.node_numbers.specs.Nodes.{numbers_at, node_of}
use Rattle.rr_edges.specs.Edges.{is_edge}
use Rattle.channel_tables.specs.Picks.{picks}
use Rattle.node_numbers.specs.Starts.{place_start}

-- the successors of a node among the nodes of a kind at a place
unfoldable pub pieces_at : Fabric → Node → Kind → (x y : ℕ) → List ℕ
pieces_at f a k x y = picks (λ n. is_edge f a (node_of k x y n)) (place_start f k x y) (numbers_at f k x y)

-- its successors among the nodes of a kind
unfoldable pub pieces_of_kind : Fabric → Node → Kind → List ℕ
pieces_of_kind f a k = flat_map (λ x. flat_map (λ y. pieces_at f a k x y) (numbers_below (f.ny + 2))) (numbers_below (f.nx + 2))
