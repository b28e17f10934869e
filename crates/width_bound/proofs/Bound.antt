-- No more nets are cut than the pins that are given up and the tracks of the border have room for.
use Rattle.std.proofs.Common.{◌≡◌, ℕ, ◌+◌, ◌*◌, ◌<◌, ◌≤◌, true, length, Some, inl, inr, ap, ◌∙◌, arith}
use Rattle.std.specs.Prelude.{Contains}
use Rattle.std.specs.List.{list_any}
use Rattle.std.proofs.lemmas.Bool.{both_ways, cases_Bool, false_from_ne_true}
use Rattle.std.proofs.lemmas.List.Elements.{All-get_or}
use Rattle.std.proofs.lemmas.List.Sums.{sum_by-le-sum_by}
use Rattle.rr_graph.specs.node.Node.{Node}
use Rattle.rr_graph.specs.Fabric.{IsFabric}
use Rattle.rr_graph.specs.Nodes.{node_at}
use Rattle.rr_graph.specs.Problems.{RoutingProblem, IsNet, IsProblem, net_in, no_net}
use Rattle.route_tree.specs.Paths.{ends_of}
use Rattle.route_tree.specs.Usage.{covers_by, use_of, overuse_of, Lists, list_in}
use Rattle.route_tree.proofs.LegalLists.{covers_end}
use Rattle.route_check.specs.Routed.{IsRouted}
use Rattle.width_bound.specs.Cuts.{Cut, border_size, is_border, is_given_up}
use Rattle.width_bound.specs.CutNets.{cut_nets, is_cut_net}
use Rattle.width_bound.proofs.Lists.{any_at}
use Rattle.width_bound.proofs.Room.{in_the_way, pin_in_the_way, room_at, room_in_the_way, wire_in_the_way}
use Rattle.width_bound.proofs.Ways.{IsFree, not_cut}
use Rattle.width_bound.proofs.Counting.{uses_counted}

module _ (p : RoutingProblem) (lists : Lists) (cut : Cut) (l : IsFabric p.device) (problem : IsProblem p) (routed : IsRouted p lists) where
  -- no node is used by more nets than it has room for
  within : (a : ℕ) → use_of p.nets lists a ≤ room_at p.device a
  unfolding overuse_of
  within a = let none = routed.within a in omega (arith, none)

  -- each cut net covers a node that stands in the way
  covered : (i : ℕ) → i < length p.nets → is_cut_net p.device cut (net_in p.nets i) ≡ true → list_any (covers_by (net_in p.nets i) (list_in lists i)) (in_the_way p.device cut) ≡ true
  covered i m cuts = elim (cases_Bool (list_any (covers_by (net_in p.nets i) (list_in lists i)) (in_the_way p.device cut))) [
    | inl some ↦ some
    | inr none ↦ (
        let route = routed.routed i m in
        let n = net_in p.nets i in
        let pairs = route.0 in
        let clear : (a : ℕ) → Contains (ends_of pairs) a → Contains (in_the_way p.device cut) a → ⊥ = λ a end at.
        both_ways (list_any (covers_by n (list_in lists i)) (in_the_way p.device cut)) none
        (any_at (covers_by n (list_in lists i)) (in_the_way p.device cut) a at (ap (λ o. covers_by n o a) route.1 ∙ covers_end n.source pairs a end)) in
        let free : (a : ℕ) (v : Node) → Contains (ends_of pairs) a → node_at p.device a ≡ Some v → IsFree p.device cut v = λ a v end h. record {
          off = λ q runs. false_from_ne_true (is_border cut q) (λ border. clear a end (wire_in_the_way p.device l cut a v h q runs border));
          kept = λ pin. false_from_ne_true (is_given_up cut v) (λ given. clear a end (pin_in_the_way p.device l cut a v h pin given));
        } in
        absurd (not_cut p.device cut n (All-get_or (IsNet p.device) p.nets i no_net m problem.nets) pairs route.2.legal free cuts))
  ]

  pub few_are_cut : cut_nets p cut ≤ length cut.pins + p.device.width * border_size p.device.nx p.device.ny cut
  unfolding cut_nets
  few_are_cut =
      let counted = uses_counted (is_cut_net p.device cut) (in_the_way p.device cut) p.nets lists routed.one_each covered in
      let used = sum_by-le-sum_by (use_of p.nets lists) (room_at p.device) (in_the_way p.device cut) within in
      omega (arith, counted, used, room_in_the_way p.device cut)
