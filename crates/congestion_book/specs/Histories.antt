-- The history of a node: its overuse in the closed iterations, added up (McMurchie and Ebeling
-- 1995, "the history of congestion").
use Rattle.std.specs.Prelude.{ℕ, ◌+◌, ◌*◌, ◌<◌, ◌≤◌, ◌==◌, nat_lt, if◌then◌else◌, List, [], ◌∷◌, map, sum_by, All}
use Rattle.std.specs.List.{filter}
use Rattle.routing_problem.specs.Fabric.{numbers_below}
use Rattle.routing_problem.specs.Nodes.{node_count_of}
use Rattle.routing_problem.specs.Problems.{RoutingProblem}
use Rattle.route_tree.specs.Usage.{overuse_of, Lists}

-- a node, and by how many nets it was overused
abbrev pub Amount : Type 0
Amount = ℕ × ℕ

-- by how much the node was overused, by the row of an iteration
abbrev pub amount_in : List Amount → ℕ → ℕ
amount_in row a = sum_by (λ e. if e.0 == a then e.1 else 0) row

-- the nodes of a row ascend, from this one on
abbrev pub AscendFrom : (least : ℕ) → List Amount → Type 0
AscendFrom least [] = Unit {0}
AscendFrom least (e ∷ es) = (least ≤ e.0) × AscendFrom (e.0 + 1) es

-- A row of overuse: nodes of the device, ascending, each overused by one net at least and by no
-- more than there are nets.
pub record IsRow (nodes nets : ℕ) (row : List Amount) : Type 0 where
  pub ascending : AscendFrom 0 row
  pub there : All (λ e. e.0 < nodes) row
  pub some : All (λ e. 1 ≤ e.1) row
  pub few : All (λ e. e.1 ≤ nets) row

-- the node's history by the rows of all closed iterations: acc times the sum of its amounts
unfoldable pub history_of : (acc : ℕ) → (rows : List (List Amount)) → ℕ → ℕ
history_of acc rows a = acc * sum_by (λ row. amount_in row a) rows

-- the history of each node by these rows
unfoldable pub histories_of : (nodes acc : ℕ) → (rows : List (List Amount)) → List ℕ
histories_of nodes acc rows = map (history_of acc rows) (numbers_below nodes)

-- the row of an iteration that ends with these lists: the overused nodes, ascending, each with its
-- overuse
unfoldable pub row_of : RoutingProblem → Lists → List Amount
row_of p lists = filter (λ e. nat_lt 0 e.1) (map (λ a. (a, overuse_of p lists a)) (numbers_below (node_count_of p.device)))
