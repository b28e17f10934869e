-- The box of a net: the bounding box of its terminals, widened (VPR and T-VPack manual 4.30,
-- "bb_factor").
use Rattle.std.specs.Prelude.{ℕ, ◌+◌, Bool, false, ◌&&◌, nat_le, min, max, List, [], ◌∷◌}
use Rattle.std.specs.Option.{option_map, option_map_or}
use Rattle.routing_problem.specs.node.Span.{Span}
use Rattle.routing_problem.specs.Fabric.{Fabric}
use Rattle.routing_problem.specs.Nodes.{node_at, span_of}
use Rattle.routing_problem.specs.Problems.{Net}

-- the columns and rows from one place to another, both included
pub record BoundingBox : Type 0 where
  pub left : ℕ
  pub right : ℕ
  pub bottom : ℕ
  pub top : ℕ

-- the places of a span
abbrev pub box_of_span : Span → BoundingBox
box_of_span s = record { left = s.x1; right = s.x2; bottom = s.y1; top = s.y2 }

-- the places of a node, or the corner if it is no node
abbrev pub box_of_node : Fabric → ℕ → BoundingBox
box_of_node f v = option_map_or box_of_span (option_map (span_of f) (node_at f v)) (record { left = 0; right = 0; bottom = 0; top = 0 })

-- the least box around two
abbrev pub box_around : BoundingBox → BoundingBox → BoundingBox
box_around a b = record { left = min a.left b.left; right = max a.right b.right; bottom = min a.bottom b.bottom; top = max a.top b.top }

-- the least box around these nodes and another box
abbrev pub box_with : Fabric → BoundingBox → List ℕ → BoundingBox
box_with f b [] = b
box_with f b (v ∷ vs) = box_with f (box_around b (box_of_node f v)) vs

-- the bounding box of a net's terminals
unfoldable pub box_of_net : Fabric → Net → BoundingBox
box_of_net f n = box_with f (box_of_node f n.source) n.sinks

-- a box, widened on each side, has one of the places from the first to the last of a span
abbrev pub touches : (bb : ℕ) → BoundingBox → Span → Bool
touches bb b s = (nat_le s.x1 (b.right + bb) && nat_le b.left (s.x2 + bb)) && (nat_le s.y1 (b.top + bb) && nat_le b.bottom (s.y2 + bb))

-- the node is in the box of the net: its place is, or for a wire one of its places
unfoldable pub is_in_box : Fabric → (bb : ℕ) → Net → ℕ → Bool
is_in_box f bb n v = option_map_or (touches bb (box_of_net f n)) (option_map (span_of f) (node_at f v)) false
