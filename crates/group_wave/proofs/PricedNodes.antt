-- What a node's kind tells, for the look-up of what it costs.
use Rattle.std.proofs.Common.{◌≡◌, ℕ, ◌<◌, true, Option, Some, None, inl, inr, sym, ap, ◌∙◌}
use Rattle.std.specs.Option.{option_map}
use Rattle.std.proofs.lemmas.Bool.{cases_lt}
use Rattle.std.proofs.lemmas.Option.{none-some, same_Some, slice_get_past}
use Rattle.routing_problem.specs.node.Kind.{Kind}
use Rattle.routing_problem.specs.node.Kind.TheVariants.{Sink}
use Rattle.routing_problem.specs.node.Node.{Node}
use Rattle.routing_problem.specs.Fabric.{Fabric}
use Rattle.routing_problem.specs.Nodes.{kind_of_node, node_at, node_count_of, nodes_of}
use Rattle.routing_problem.specs.Problems.{any_node, is_sink, is_sink_kind}

pub kind_within : (f : Fabric) (v : ℕ) (k : Kind) → kind_of_node f v ≡ Some k → v < node_count_of f
kind_within f v k is = elim (cases_lt v (node_count_of f)) [
  | inl within ↦ within
  | inr past ↦ absurd (none-some k (sym (ap (option_map (λ (n : Node). n.kind)) (slice_get_past (nodes_of f) v past)) ∙ is))
]

by_node : (o : Option Node) → option_map (λ (n : Node). n.kind) o ≡ Some Sink → any_node is_sink_kind o ≡ true
by_node None is = absurd (none-some _ is)
by_node (Some n) is = ap is_sink_kind (same_Some n.kind Sink is)

pub kind_sink : (f : Fabric) (v : ℕ) → kind_of_node f v ≡ Some Sink → is_sink f v ≡ true
unfolding is_sink
kind_sink f v is = by_node (node_at f v) is
