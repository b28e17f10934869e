-- The overused nodes by counted uses, and the nets found on them so far.
use Rattle.std.specs.Prelude.{ℕ, Bool, if◌then◌else◌, List, [], ◌∷◌, ◌++◌, get_or}
use Rattle.std.specs.List.{filter}
use Rattle.routing_problem.specs.Fabric.{Fabric, numbers_below}
use Rattle.routing_problem.specs.Nodes.{node_at}
use Rattle.routing_problem.specs.Problems.{RoutingProblem, net_in}
use Rattle.route_tree.specs.Usage.{covers_by, use_of, room_of, Lists, list_in}
use Rattle.route_report.specs.declared.overused.OverusedNode.TheInside as overused
use Rattle.route_report.specs.Overused.{Overuse}

abbrev pub overuse_inside : overused.Inside → Overuse
overuse_inside o = record { node = o.node; used = o.used; capacity = o.capacity; nets = o.nets.items }

-- a node with its count, and no nets yet
abbrev pub bare : Fabric → List ℕ → ℕ → Overuse
bare f uses a = record { node = a; used = get_or uses a 0; capacity = room_of f (node_at f a); nets = [] }

-- one more net, if the node passes the test
abbrev pub with_net : (ℕ → Bool) → ℕ → Overuse → Overuse
with_net test net o = record {
  node = o.node;
  used = o.used;
  capacity = o.capacity;
  nets = o.nets ++ (if test o.node then net ∷ [] else []);
}

-- a node with those of the first nets that cover it
abbrev pub entry_to : RoutingProblem → Lists → ℕ → ℕ → Overuse
entry_to p lists nets a = record {
  node = a;
  used = use_of p.nets lists a;
  capacity = room_of p.device (node_at p.device a);
  nets = filter (λ i. covers_by (net_in p.nets i) (list_in lists i) a) (numbers_below nets);
}
