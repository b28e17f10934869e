-- The figures of a whole routing.
use Rattle.std.specs.Prelude.{ℕ, ◌*◌, ◌&&◌, if◌then◌else◌, List, length, count_by, sum}
use Rattle.std.specs.List.{sum_by}
use Rattle.std.specs.Option.{is_some}
use Rattle.routing_problem.specs.Fabric.{Fabric, numbers_below}
use Rattle.routing_problem.specs.Nodes.{node_count_of, is_wire_at}
use Rattle.routing_problem.specs.Problems.{RoutingProblem}
use Rattle.route_tree.specs.Usage.{use_of, Lists, list_in}
use Rattle.route_report.specs.declared.figures.Figures.{Figures}
use Rattle.route_report.specs.Covered.{uses_of, is_used}
use Rattle.route_report.specs.Wirelength.{places_at, wirelengths_of, greatest_in, first_greatest}

-- how many nets have a list
unfoldable pub nets_listed : RoutingProblem → Lists → ℕ
nets_listed p lists = count_by (λ i. is_some (list_in lists i)) (numbers_below (length p.nets))

-- how many wires some net covers
unfoldable pub wires_used : Fabric → List ℕ → ℕ
wires_used f uses =
    count_by (λ a. is_wire_at f a && is_used uses a) (numbers_below (node_count_of f))

-- the places of these wires
unfoldable pub places_used : Fabric → List ℕ → ℕ
places_used f uses =
    sum_by (λ a. if is_used uses a then places_at f a else 0) (numbers_below (node_count_of f))

-- the places of all wires, those of each wire as often as nets cover it
abbrev pub places_covered : RoutingProblem → Lists → ℕ
places_covered p lists =
    sum_by (λ a. use_of p.nets lists a * places_at p.device a) (numbers_below (node_count_of p.device))

abbrev pub figures_of : RoutingProblem → Lists → Figures
figures_of p lists = record {
  nets = length p.nets;
  listed = nets_listed p lists;
  wires = wires_used p.device (uses_of p lists);
  places = places_used p.device (uses_of p lists);
  wirelength = sum (wirelengths_of p lists);
  greatest = greatest_in (wirelengths_of p lists);
  longest = first_greatest (wirelengths_of p lists);
}
