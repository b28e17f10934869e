-- As many nets of a placed design are cut at every width and in either mode.
use Rattle.std.proofs.Common.{◌≡◌, ℕ, ◌+◌, Bool, true, false, cond, List, [], ◌∷◌, All, Option, refl, sym, ap, ap₂, ◌∙◌}
use Rattle.std.specs.Prelude.{count_by}
use Rattle.std.specs.List.{filter_map, cons_option}
use Rattle.std.proofs.lemmas.Bool.{both_ways}
use Rattle.std.proofs.lemmas.List.Elements.{All-head, All-tail, All-weaker}
use Rattle.std.proofs.lemmas.List.Sums.{sum_by-cons}
use Rattle.arch_file.specs.Architecture.{Architecture}
use Rattle.net_file.specs.Facts.{IsNetlist}
use Rattle.net_file.specs.Netlist as netlist
use Rattle.place_file.specs.Placement.{Placement}
use Rattle.rr_graph.specs.node.Mode.{Mode}
use Rattle.rr_graph.specs.node.Kind.{Kind}
use Rattle.rr_graph.specs.node.Kind.TheVariants.{Source, Sink}
use Rattle.rr_graph.specs.node.Node.{Node}
use Rattle.rr_graph.specs.Fabric.{IsFabric, fabric_with}
use Rattle.rr_graph.specs.Pins.{belongs, channels_beside}
use Rattle.rr_graph.specs.Nodes.{is_sink, is_sink_kind, is_source_kind, node_at, numbers_at}
use Rattle.rr_graph.specs.Numbering.{is_terminal}
use Rattle.rr_graph.specs.Problems.{Net, IsNet}
use Rattle.rr_graph.specs.Designs.{problem_from, problem_with, suits_design}
use Rattle.rr_graph.proofs.Designs.{is_problem}
use Rattle.width_bound.specs.Cuts.{Cut, is_cut, is_beside_inner, is_beside_outer, pins_left}
use Rattle.width_bound.specs.CutNets.{cut_nets, is_cut_from, is_cut_net}
use Rattle.width_bound.proofs.Edges.{sink_node, source_at}
use Rattle.width_bound.proofs.SameNets.{same_nets, same_node}

-- ---- lists that are mapped and counted alike
mapped_alike : {X Y : Type 0} (g h : X → Option Y) (xs : List X) → All (λ x. g x ≡ h x) xs → filter_map g xs ≡ filter_map h xs
mapped_alike g h [] same = refl
mapped_alike g h (x ∷ xs) same = ap₂ (λ o ys. cons_option o ys) (All-head (λ y. g y ≡ h y) x xs same) (mapped_alike g h xs (All-tail (λ y. g y ≡ h y) x xs same))

counted_alike : {X : Type 0} (test test' : X → Bool) (xs : List X) → All (λ x. test x ≡ test' x) xs → count_by test xs ≡ count_by test' xs
counted_alike test test' [] same = refl
counted_alike test test' (x ∷ xs) same =
    sum_by-cons (λ y. cond (test y) 1 0) x xs
    ∙ ap₂ (λ b n. cond b 1 0 + n) (All-head (λ y. test y ≡ test' y) x xs same) (counted_alike test test' xs (All-tail (λ y. test y ≡ test' y) x xs same))
    ∙ sym (sum_by-cons (λ y. cond (test' y) 1 0) x xs)

source_is_terminal : (k : Kind) → is_source_kind k ≡ true → is_terminal k ≡ true
source_is_terminal Source e = refl
source_is_terminal _ e = absurd (both_ways false refl e)

sink_is_terminal : (k : Kind) → is_sink_kind k ≡ true → is_terminal k ≡ true
sink_is_terminal Sink e = refl
sink_is_terminal _ e = absurd (both_ways false refl e)

module _ (a : Architecture) (nx ny v w : ℕ) (j k : Mode) (cut : Cut) where
  -- the test asks neither for the width nor for the mode
  same_test : (source : Node) (sinks : List Node) → is_cut (fabric_with nx ny v j a) cut source sinks ≡ is_cut (fabric_with nx ny w k a) cut source sinks
  unfolding is_cut pins_left belongs numbers_at is_beside_inner is_beside_outer channels_beside
  same_test source sinks = refl

  same_net : (n : Net) → IsNet (fabric_with nx ny v j a) n → is_cut_net (fabric_with nx ny v j a) cut n ≡ is_cut_net (fabric_with nx ny w k a) cut n
  same_net n net =
      let one = fabric_with nx ny v j a in
      let other = fabric_with nx ny w k a in
      let source = source_at one n.source net.source in
      let there = same_node a nx ny v w j k n.source source.0 (source_is_terminal source.0.kind source.2) source.1 in
      let each : All (λ s. node_at one s ≡ node_at other s) n.sinks = All-weaker (λ s. is_sink one s ≡ true) (λ s. node_at one s ≡ node_at other s) (λ s e.
      let sink = sink_node one s e in
      sink.1 ∙ sym (same_node a nx ny v w j k s sink.0 (sink_is_terminal sink.0.kind sink.2) sink.1)) n.sinks net.sinks in
      ap (λ o. is_cut_from one cut o (filter_map (node_at one) n.sinks)) source.1
      ∙ same_test source.0 (filter_map (node_at one) n.sinks)
      ∙ ap (is_cut other cut source.0) (mapped_alike (node_at one) (node_at other) n.sinks each)
      ∙ ap (λ o. is_cut_from other cut o (filter_map (node_at other) n.sinks)) (sym there)

pub same_count : (a : Architecture) (design : netlist.Netlist) (placement : Placement) (cut : Cut) (v w : ℕ) (j k : Mode) →
    IsFabric (fabric_with placement.nx placement.ny v j a) → IsFabric (fabric_with placement.nx placement.ny w k a) → IsNetlist design →
    suits_design (fabric_with placement.nx placement.ny v j a) design placement ≡ true →
    cut_nets (problem_with j a design placement v) cut ≡ cut_nets (problem_with k a design placement w) cut
unfolding cut_nets problem_from
same_count a design placement cut v w j k l m limits suits =
    let one = fabric_with placement.nx placement.ny v j a in
    let other = fabric_with placement.nx placement.ny w k a in
    let nets = (problem_from one design placement).nets in
    let problem = is_problem one design placement suits limits in
    counted_alike (is_cut_net one cut) (is_cut_net other cut) nets
    (All-weaker (IsNet one) (λ n. is_cut_net one cut n ≡ is_cut_net other cut n) (same_net a placement.nx placement.ny v w j k cut) nets problem.nets)
    ∙ ap (count_by (is_cut_net other cut)) (same_nets a placement.nx placement.ny v w j k l m design placement)
