-- How many bends and wires nets have at most.
use Rattle.std.proofs.Common.{◌≡◌, ℕ, ◌^◌, ◌<◌, ◌≤◌, All, length, map, get_or, sym, subst, arith}
use Rattle.std.specs.List.{filter}
use Rattle.std.specs.Prelude.{count_by}
use Rattle.std.proofs.lemmas.List.Sums.{length-filter, count_by-le-length}
use Rattle.std.proofs.lemmas.List.FromFn.{length-range_with_len}
use Rattle.routing_problem.specs.Fabric.{IsFabric, numbers_below}
use Rattle.routing_problem.specs.Nodes.{is_wire_at, node_count_of}
use Rattle.routing_problem.specs.Problems.{RoutingProblem}
use Rattle.routing_problem.proofs.Order.{node_count_below}
use Rattle.routing_problem.proofs.Ranges.{length_below, get_below}
use Rattle.route_tree.specs.Legality.{is_among}
use Rattle.route_tree.specs.Paths.{ends_of}
use Rattle.route_tree.specs.Usage.{Lists, list_in}
use Rattle.route_report.specs.Bends.{bends_of, bends_of_nets, is_bend, pairs_in}
use Rattle.route_report.specs.Covered.{nodes_covered}
use Rattle.route_report.specs.NetFigures.{wires_of, wires_of_nets}
use Rattle.route_report.proofs.Lengths.{covered_few}

-- what holds of each number below n holds of what a function gives of these
each_small : (g : ℕ → ℕ) (n most : ℕ) → ((i : ℕ) → g i ≤ most) → All (λ k. k ≤ most) (map g (numbers_below n))
each_small g n most small = λ k d l.
    let low : k < n = omega (arith, l, length_below g n) in
    subst (λ m. m ≤ most) (sym (get_below g n k d low)) (small k)

module _ (p : RoutingProblem) (lists : Lists) where
  pub bends_few : length (bends_of_nets p lists) ≡ length p.nets
  bends_few = length_below (bends_of p lists) (length p.nets)

  pub wires_few : length (wires_of_nets p lists) ≡ length p.nets
  wires_few = length_below (wires_of p lists) (length p.nets)

  bend_small : IsFabric p.device → (i : ℕ) → bends_of p lists i ≤ 2 ^ 40
  unfolding bends_of
  bend_small within i =
      let test = is_among (ends_of (filter (is_bend p.device) (pairs_in (list_in lists i)))) in
      let kept = length-filter test (numbers_below (node_count_of p.device)) in
      let few = count_by-le-length test (numbers_below (node_count_of p.device)) in
      let count = length-range_with_len 0 (node_count_of p.device) in
      let below = node_count_below p.device within in
      omega (arith, kept, few, count, below)

  wire_small : IsFabric p.device → (i : ℕ) → wires_of p lists i ≤ 2 ^ 40
  unfolding wires_of
  wire_small within i =
      let few = count_by-le-length (is_wire_at p.device) (nodes_covered p lists i) in
      let covered = covered_few p lists i within in
      omega (arith, few, covered)

  pub bends_small : IsFabric p.device → All (λ n. n ≤ 2 ^ 40) (bends_of_nets p lists)
  bends_small within = each_small (bends_of p lists) (length p.nets) (2 ^ 40) (bend_small within)

  pub wires_small : IsFabric p.device → All (λ n. n ≤ 2 ^ 40) (wires_of_nets p lists)
  wires_small within = each_small (wires_of p lists) (length p.nets) (2 ^ 40) (wire_small within)
