-- How many places wires pass, and how long nets are.
use Rattle.std.specs.Prelude.{ℕ, ◌+◌, ◌-◌, ◌==◌, max, List, [], ◌∷◌, length, map, get_or, Option, Some, None}
use Rattle.std.specs.List.{sum_by, find}
use Rattle.routing_problem.specs.node.Kind.{Kind}
use Rattle.routing_problem.specs.node.Span.{Span}
use Rattle.routing_problem.specs.Fabric.{Fabric, numbers_below}
use Rattle.routing_problem.specs.Nodes.{node_at, wire_in}
use Rattle.routing_problem.specs.Problems.{RoutingProblem}
use Rattle.route_tree.specs.Usage.{Lists}
use Rattle.route_report.specs.Covered.{nodes_covered}

-- the places from the first one to the last
abbrev pub places_along : Span → ℕ
places_along s = (s.x2 - s.x1) + (s.y2 - s.y1) + 1

abbrev pub places_of_wire : Option (Kind × Span × ℕ) → ℕ
places_of_wire (Some w) = places_along w.1
places_of_wire None = 0

-- how many places a node's wire passes; none if the node is no wire
unfoldable pub places_at : Fabric → ℕ → ℕ
places_at f a = places_of_wire (wire_in f (node_at f a))

-- the places of all wires that net i covers, each wire once
unfoldable pub wirelength_of : RoutingProblem → Lists → ℕ → ℕ
wirelength_of p lists i = sum_by (places_at p.device) (nodes_covered p lists i)

-- those of each net
unfoldable pub wirelengths_of : RoutingProblem → Lists → List ℕ
wirelengths_of p lists = map (wirelength_of p lists) (numbers_below (length p.nets))

abbrev pub greatest_in : List ℕ → ℕ
greatest_in [] = 0
greatest_in (n ∷ ns) = max n (greatest_in ns)

-- the first place that has the greatest number; none in a list without numbers
unfoldable pub first_greatest : List ℕ → Option ℕ
first_greatest ns = find (λ i. get_or ns i 0 == greatest_in ns) (numbers_below (length ns))
