-- What a tree of switches and a net of a problem name are nodes.
use Rattle.std.proofs.Common.{◌≡◌, ℕ, ◌+◌, ◌<◌, ◌≤◌, ◌==◌, zero, suc, inl, inr, true, false, not, nat_lt, List, length, get_or, All, None, sym, ap, ◌∙◌, subst, arith}
use Rattle.std.proofs.lemmas.Bool.{cases_lt, cases_Bool, false≢true, eqb-true, or_parts, not-false}
use Rattle.std.proofs.lemmas.Option.{slice_get_past}
use Rattle.std.proofs.lemmas.Bool.Decides.{nat_tests}
use Rattle.std.proofs.lemmas.List.Elements.{All-get_or, All-from_get_or}
use Rattle.std.proofs.lemmas.List.Folds.{list_any_none}
use Rattle.routing_problem.specs.Fabric.{Fabric}
use Rattle.routing_problem.specs.Nodes.{node_count_of, nodes_of, node_at}
use Rattle.routing_problem.specs.Edges.{edge_between}
use Rattle.routing_problem.specs.Problems.{RoutingProblem, IsNet, IsProblem, net_in, no_net, is_sink, is_source, any_node, is_sink_kind}
use Rattle.routing_problem.proofs.EdgeEnds.{source_or_sink}
use Rattle.routing_problem.proofs.Graph.{edge_from_node, edge_to_node}
use Rattle.route_tree.specs.declared.tree.Row.{Row}
use Rattle.route_tree.specs.Paths.{Pair}
use Rattle.route_tree.specs.Legality.{is_among}
use Rattle.route_tree.specs.Rows.{no_row, node_in, pairs_of, IsTree}
use Rattle.route_tree.specs.Faults.{begins_elsewhere, lacks_switch}
use Rattle.route_tree.proofs.RowTests.{none_at, begins}
use Rattle.route_tree.proofs.Trees.{length_pairs, pair_at}

module _ (f : Fabric) where
  -- what is past the last node is none
  no_node : (i : ℕ) → node_count_of f ≤ i → node_at f i ≡ None
  no_node i l = slice_get_past (nodes_of f) i l

  -- what is a sink is a node
  sink_node : (s : ℕ) → is_sink f s ≡ true → s < node_count_of f
  unfolding is_sink
  sink_node s e = elim (cases_lt s (node_count_of f)) [
    | inl l ↦ l
    | inr g ↦ absurd (false≢true (sym (ap (any_node is_sink_kind) (no_node s g)) ∙ e))
  ]

  -- no sink is a source
  apart : (source s : ℕ) → is_source f source ≡ true → is_sink f s ≡ true → (s == source) ≡ false
  apart source s a b = elim (cases_Bool (s == source)) [
    | inl e ↦ absurd (source_or_sink f source a (subst (λ k. is_sink f k ≡ true) (eqb-true s source e) b))
    | inr e ↦ e
  ]

  edge_of : (pairs : List Pair) → lacks_switch f pairs ≡ false → (k : ℕ) → k < length pairs → edge_between f (get_or pairs k (0, 0)).0 (get_or pairs k (0, 0)).1 ≡ true
  edge_of pairs h k l = not-false (edge_between f (get_or pairs k (0, 0)).0 (get_or pairs k (0, 0)).1) (none_at (λ p. not (edge_between f p.0 p.1)) pairs (0, 0) h k l)

module _ (f : Fabric) (rows : List Row) (source : ℕ) (t : IsTree rows) (e : begins_elsewhere source (pairs_of rows) ≡ false) (h : lacks_switch f (pairs_of rows) ≡ false) where
  two : 2 ≤ length rows
  two = let few = (or_parts (nat_lt (length rows) 2) (not (node_in rows 0 == source)) (sym (begins rows source t) ∙ e)).0 in grind (arith, nat_tests, few)

  row_below : (k : ℕ) → k < length rows → (get_or rows k no_row).node < node_count_of f
  row_below zero l =
      let size = length_pairs rows t in
      let edge = edge_of f (pairs_of rows) h 0 (omega (arith, size, two)) in
      let early = t.earlier 1 (omega arith) (omega (arith, two)) in
      let first : (get_or rows 1 no_row).parent ≡ 0 = omega (arith, early) in
      let begin = ap (λ p. p.0) (pair_at rows 0 t (omega (arith, size, two))) ∙ ap (node_in rows) first in
      let bound = edge_from_node f _ _ edge in
      omega (arith, bound, begin)
  row_below (suc k) l =
      let size = length_pairs rows t in
      let bound = edge_to_node f _ _ (edge_of f (pairs_of rows) h k (omega (arith, size, l))) in
      let end : (get_or (pairs_of rows) k (0, 0)).1 ≡ (get_or rows (k + 1) no_row).node = ap (λ p. p.1) (pair_at rows k t (omega (arith, size, l))) in
      let at : k + 1 ≡ suc k = omega arith in
      subst (λ i. (get_or rows i no_row).node < node_count_of f) at (omega (arith, bound, end))

  pub rows_below : All (λ r. r.node < node_count_of f) rows
  rows_below = All-from_get_or (λ r. r.node < node_count_of f) rows no_row row_below

pub sinks_below : (p : RoutingProblem) (i : ℕ) → IsProblem p → i < length p.nets → All (λ s. s < node_count_of p.device) (net_in p.nets i).sinks
sinks_below p i keeps l =
    let net = All-get_or (IsNet p.device) p.nets i no_net l keeps.nets in
    λ k d m. sink_node p.device (get_or (net_in p.nets i).sinks k d) (net.sinks k d m)

pub source_apart : (p : RoutingProblem) (i : ℕ) → IsProblem p → i < length p.nets → is_among (net_in p.nets i).sinks (net_in p.nets i).source ≡ false
source_apart p i keeps l =
    let net = All-get_or (IsNet p.device) p.nets i no_net l keeps.nets in
    let sinks = (net_in p.nets i).sinks in
    let source = (net_in p.nets i).source in
    list_any_none (λ x. x == source) sinks (λ k d m. apart p.device source (get_or sinks k d) net.source (net.sinks k d m))
