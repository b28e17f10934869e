-- How full the channels are.
use Rattle.std.specs.Prelude.{ℕ, ◌+◌, Bool, false, min, sum, if◌then◌else◌, List, ◌++◌, map, get_or}
use Rattle.std.specs.List.{sum_by}
use Rattle.std.specs.Option.{option_map_or}
use Rattle.routing_problem.specs.node.Kind.{Kind}
use Rattle.routing_problem.specs.node.Kind.TheVariants.{Chanx, Chany}
use Rattle.routing_problem.specs.node.Mode.{Mode}
use Rattle.routing_problem.specs.node.Mode.TheVariants.{Detailed, Global}
use Rattle.routing_problem.specs.Fabric.{Fabric, numbers_below}
use Rattle.routing_problem.specs.Wires.{Place, runs_through}
use Rattle.routing_problem.specs.Nodes.{node_at, node_count_of}
use Rattle.route_report.specs.Wirelength.{greatest_in}

-- how many tracks a wire occupies if this many nets cover it: its own, for one or more; in a global
-- channel one for each
abbrev pub occupied_by : Mode → ℕ → ℕ
occupied_by Detailed nets = min nets 1
occupied_by Global nets = nets

-- node a is a wire that runs through the place
abbrev pub runs_at : Fabric → Place → ℕ → Bool
runs_at f q a = option_map_or (λ n. runs_through f n q) (node_at f a) false

-- how many tracks node a occupies at a place
abbrev pub occupies : Fabric → List ℕ → Place → ℕ → ℕ
occupies f uses q a = if runs_at f q a then occupied_by f.mode (get_or uses a 0) else 0

-- how many tracks are occupied at a place of a channel
unfoldable pub occupancy_at : Fabric → List ℕ → Place → ℕ
occupancy_at f uses q = sum_by (occupies f uses q) (numbers_below (node_count_of f))

-- place m, from 0 on, of a channel: along a row, or up a column
abbrev pub place_in : Kind → (channel m : ℕ) → Place
place_in Chany x m = (Chany, x, m + 1)
place_in k y m = (k, m + 1, y)

-- how many tracks are occupied at each of n places of a channel
abbrev pub occupancies_in : Fabric → List ℕ → Kind → (n channel : ℕ) → List ℕ
occupancies_in f uses k n channel =
    map (λ m. occupancy_at f uses (place_in k channel m)) (numbers_below n)

-- a channel: how many tracks are occupied at each of its places, the most, and all together
pub record Channel : Type 0 where
  pub kind : Kind
  pub number : ℕ
  pub occupied : List ℕ
  pub most : ℕ
  pub total : ℕ

abbrev pub channel_with : Kind → (number : ℕ) → List ℕ → Channel
channel_with k number occupied = record {
  kind = k;
  number = number;
  occupied = occupied;
  most = greatest_in occupied;
  total = sum occupied;
}

-- the channels of a kind, by number
abbrev pub channels_along : Fabric → List ℕ → Kind → (n count : ℕ) → List Channel
channels_along f uses k n count =
    map (λ c. channel_with k c (occupancies_in f uses k n c)) (numbers_below count)

-- the channels above the rows, from row 0 on, and then those right of the columns, from column 0 on
unfoldable pub channels_of : Fabric → List ℕ → List Channel
channels_of f uses =
    channels_along f uses Chanx f.nx (f.ny + 1) ++ channels_along f uses Chany f.ny (f.nx + 1)
