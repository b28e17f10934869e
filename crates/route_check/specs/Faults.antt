-- What is wrong with a routing: each fault as a condition of its own, and which fault is the first.
use Rattle.std.specs.Prelude.{◌≡◌, ◌≢◌, ℕ, ◌<◌, ◌≤◌, ◌⊎◌, List, length, Some, None}
use Rattle.routing_problem.specs.Problems.{RoutingProblem}
use Rattle.route_tree.specs.declared.fault.TreeFault.{TreeFault}
use Rattle.route_tree.specs.Paths.{Pair}
use Rattle.route_tree.specs.Faults.{IsFirstFault}
use Rattle.route_tree.specs.Usage.{overuse_of, Lists, list_in}
use Rattle.route_check.specs.declared.fault.RouteFault.{RouteFault}
use Rattle.route_check.specs.declared.fault.RouteFault.TheVariants.{Length, Unrouted, Tree, Overused}

-- net i has a list, whose first fault is this one
abbrev pub HasTreeFault : RoutingProblem → Lists → ℕ → TreeFault → Type 0
HasTreeFault p lists i fault = (pairs : List Pair) × (list_in lists i ≡ Some pairs) × IsFirstFault p i pairs fault

-- the fault is one of this routing
abbrev pub HasRouteFault : RoutingProblem → Lists → RouteFault → Type 0
HasRouteFault p lists Length = length lists ≢ length p.nets
HasRouteFault p lists (Unrouted net) = (net < length p.nets) × (list_in lists net ≡ None)
HasRouteFault p lists (Tree net fault) = (net < length p.nets) × HasTreeFault p lists net fault
HasRouteFault p lists (Overused node by) = (overuse_of p lists node ≡ by) × (1 ≤ by)

-- what is looked at first: the length, then the nets, then the nodes
abbrev pub stage_of : RouteFault → ℕ
stage_of Length = 1
stage_of (Unrouted net) = 2
stage_of (Tree net fault) = 2
stage_of (Overused node by) = 3

-- the net or the node of a fault
abbrev pub place_of : RouteFault → ℕ
place_of Length = 0
place_of (Unrouted net) = net
place_of (Tree net fault) = net
place_of (Overused node by) = node

-- by stage, and then by the number of the net or node
abbrev pub IsBefore : RouteFault → RouteFault → Type 0
IsBefore a b = (stage_of a < stage_of b) ⊎ ((stage_of a ≡ stage_of b) × (place_of a < place_of b))

-- the fault is the first that this routing has
pub record IsFirstRouteFault (p : RoutingProblem) (lists : Lists) (fault : RouteFault) : Type 0 where
  pub there : HasRouteFault p lists fault
  pub none_before : (other : RouteFault) → IsBefore other fault → ¬ HasRouteFault p lists other
