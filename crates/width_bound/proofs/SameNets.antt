-- The nets of a placed design are the same at every width and in either mode: the nodes that they
-- join come before all wires.
use Rattle.std.proofs.Common.{◌≡◌, ℕ, ◌+◌, true, false, List, [], ◌∷◌, map, Option, Some, None, refl, sym, ap, ap₂, ◌∙◌}
use Rattle.std.specs.Prelude.{Contains, nat_eq, option_and_then, slice_get, slice_index_or, unwrap_or}
use Rattle.std.specs.List.{list_any}
use Rattle.std.specs.List.Sorted.{IsStrictlyIncreasing}
use Rattle.std.specs.Option.{option_eq}
use Rattle.std.proofs.lemmas.Bool.{both_ways, eqb-true}
use Rattle.std.proofs.lemmas.List.Kept.{IsStrictlyIncreasing-filter}
use Rattle.arch_file.specs.Architecture.{Architecture}
use Rattle.net_file.specs.declared.terminal.Terminal.{Terminal}
use Rattle.net_file.specs.Netlist as netlist
use Rattle.net_file.specs.Routed.{no_net, routed_numbers}
use Rattle.place_file.specs.declared.site.Site.{Site}
use Rattle.place_file.specs.Placement.{Placement}
use Rattle.rr_graph.specs.node.Mode.{Mode}
use Rattle.rr_graph.specs.node.Kind.{Kind}
use Rattle.rr_graph.specs.node.Kind.TheVariants.{Source, Sink, Opin, Ipin, Chanx, Chany}
use Rattle.rr_graph.specs.node.Node.{Node}
use Rattle.rr_graph.specs.Fabric.{Fabric, IsFabric, fabric_with, is_block, numbers_below}
use Rattle.rr_graph.specs.Nodes.{node_at, node_count_of, node_of, number_of, numbers_at}
use Rattle.rr_graph.specs.Numbering.{is_terminal}
use Rattle.node_numbers.specs.Starts.{kind_start, column_start, place_start}
use Rattle.rr_graph.specs.Designs.{label_on, node_on, terminal_node, stands_at, nodes_of_sinks, net_of_design, problem_from}
use Rattle.rr_graph.proofs.Order.{node_of_number, number_of_node}
use Rattle.routing_problem.proofs.NodesByPlace.{node_at_place, place_of_node}
use Rattle.routing_problem.proofs.Ascending.{below_ascend, kept_below, passes_there, same_ascending}
use Rattle.rr_graph.proofs.Designs.{found_below}
use Rattle.width_bound.proofs.Lists.{any_alike, any_found}

same_options : {X : Type 0} (o p : Option X) → ((x : X) → o ≡ Some x → p ≡ Some x) → ((x : X) → p ≡ Some x → o ≡ Some x) → o ≡ p
same_options None None f g = refl
same_options None (Some x) f g = g x refl
same_options (Some x) p f g = sym (f x refl)

same_some : (i : ℕ) (o : Option ℕ) → option_eq nat_eq (Some i) o ≡ true → o ≡ Some i
same_some i None e = absurd (both_ways false refl e)
same_some i (Some n) e = ap Some (sym (eqb-true i n e))

module _ (a : Architecture) (nx ny v w : ℕ) (j k : Mode) where
  -- two devices of one array and architecture
  abbrev one : Fabric
  one = fabric_with nx ny v j a

  abbrev other : Fabric
  other = fabric_with nx ny w k a

  -- ---- nodes of terminals and pins have the same numbers
  same_start : (kind : Kind) (x y : ℕ) → is_terminal kind ≡ true → place_start one kind x y ≡ place_start other kind x y
  unfolding place_start column_start kind_start numbers_at
  same_start Source x y t = refl
  same_start Sink x y t = refl
  same_start Opin x y t = refl
  same_start Ipin x y t = refl
  same_start Chanx x y t = absurd (both_ways false refl t)
  same_start Chany x y t = absurd (both_ways false refl t)

  same_numbers : (kind : Kind) (x y : ℕ) → is_terminal kind ≡ true → numbers_at one kind x y ≡ numbers_at other kind x y
  unfolding numbers_at
  same_numbers Source x y t = refl
  same_numbers Sink x y t = refl
  same_numbers Opin x y t = refl
  same_numbers Ipin x y t = refl
  same_numbers Chanx x y t = absurd (both_ways false refl t)
  same_numbers Chany x y t = absurd (both_ways false refl t)

  pub same_node : (i : ℕ) (n : Node) → is_terminal n.kind ≡ true → node_at one i ≡ Some n → node_at other i ≡ Some n
  same_node i n t h =
      let at = place_of_node one i n h in
      let stands = ap (λ ns. slice_get ns at.0) (sym (same_numbers n.kind n.x n.y t)) ∙ at.3 in
      ap (node_at other) (at.4 ∙ ap (λ s. s + at.0) (same_start n.kind n.x n.y t)) ∙ node_at_place other n.kind n.x n.y at.0 n.number stands at.1 at.2

  pub number_there : IsFabric other → (n : Node) → is_terminal n.kind ≡ true → (i : ℕ) → number_of one n ≡ Some i → number_of other n ≡ Some i
  number_there l n t i e = number_of_node other l i n (same_node i n t (node_of_number one i n e))

module _ (a : Architecture) (nx ny v w : ℕ) (j k : Mode) (l : IsFabric (fabric_with nx ny v j a)) (m : IsFabric (fabric_with nx ny w k a)) where
  pub same_number : (n : Node) → is_terminal n.kind ≡ true → number_of (one a nx ny v w j k) n ≡ number_of (other a nx ny v w j k) n
  same_number n t =
      same_options (number_of (one a nx ny v w j k) n) (number_of (other a nx ny v w j k) n) (number_there a nx ny v w j k m n t) (number_there a nx ny w v k j l n t)

  -- ---- terminals have the same nodes
  module _ (placement : Placement) where
    same_terminal : (kind : Kind) → is_terminal kind ≡ true → (t : Terminal) →
        terminal_node (one a nx ny v w j k) kind placement t ≡ terminal_node (other a nx ny v w j k) kind placement t
    unfolding terminal_node
    same_terminal kind e t = at (slice_get placement.sites t.block)
      where
        by_label : (site : Site) (label : Option ℕ) →
            option_and_then (λ number. number_of (one a nx ny v w j k) (node_of kind site.x site.y number)) label
            ≡ option_and_then (λ number. number_of (other a nx ny v w j k) (node_of kind site.x site.y number)) label
        by_label site None = refl
        by_label site (Some number) = same_number (node_of kind site.x site.y number) e

        at : (o : Option Site) → option_and_then (node_on (one a nx ny v w j k) kind t.class) o ≡ option_and_then (node_on (other a nx ny v w j k) kind t.class) o
        at None = refl
        at (Some site) = by_label site (label_on (is_block (one a nx ny v w j k) site.x site.y) t.class site)

sinks_there : (f g : Fabric) (placement : Placement) → ((t : Terminal) → terminal_node f Sink placement t ≡ terminal_node g Sink placement t) →
    (sinks : List Terminal) (x : ℕ) → Contains (nodes_of_sinks f placement sinks) x → Contains (nodes_of_sinks g placement sinks) x
unfolding nodes_of_sinks
sinks_there f g placement same sinks x h =
    let passes = passes_there (λ i. list_any (stands_at f Sink placement i) sinks) (numbers_below (node_count_of f)) x h in
    let there : list_any (stands_at g Sink placement x) sinks ≡ true = sym (any_alike (stands_at f Sink placement x) (stands_at g Sink placement x) (λ t. ap (option_eq nat_eq (Some x)) (same t)) sinks) ∙ passes in
    let found = any_found (stands_at g Sink placement x) sinks there in
    kept_below (λ i. list_any (stands_at g Sink placement i) sinks) (node_count_of g) x (found_below g Sink placement found.0 x (same_some x _ found.2)) there

sinks_ascend : (f : Fabric) (placement : Placement) (sinks : List Terminal) → IsStrictlyIncreasing (nodes_of_sinks f placement sinks)
unfolding nodes_of_sinks
sinks_ascend f placement sinks = IsStrictlyIncreasing-filter (λ i. list_any (stands_at f Sink placement i) sinks) (numbers_below (node_count_of f)) (below_ascend (node_count_of f))

same_map : {X Y : Type 0} (g h : X → Y) → ((x : X) → g x ≡ h x) → (xs : List X) → map g xs ≡ map h xs
same_map g h e [] = refl
same_map g h e (x ∷ xs) = ap₂ (λ y ys. y ∷ ys) (e x) (same_map g h e xs)

-- the nets of a placed design are the same on both devices
module _ (a : Architecture) (nx ny v w : ℕ) (j k : Mode) (l : IsFabric (fabric_with nx ny v j a)) (m : IsFabric (fabric_with nx ny w k a)) (design : netlist.Netlist) (placement : Placement) where
  same_sinks : (sinks : List Terminal) → nodes_of_sinks (one a nx ny v w j k) placement sinks ≡ nodes_of_sinks (other a nx ny v w j k) placement sinks
  same_sinks sinks =
      let same = same_terminal a nx ny v w j k l m placement Sink refl in
      same_ascending (nodes_of_sinks (one a nx ny v w j k) placement sinks) (nodes_of_sinks (other a nx ny v w j k) placement sinks)
      (sinks_ascend (one a nx ny v w j k) placement sinks) (sinks_ascend (other a nx ny v w j k) placement sinks)
      (sinks_there (one a nx ny v w j k) (other a nx ny v w j k) placement same sinks)
      (sinks_there (other a nx ny v w j k) (one a nx ny v w j k) placement (λ t. sym (same t)) sinks)

  same_net : (n : ℕ) → net_of_design (one a nx ny v w j k) design placement n ≡ net_of_design (other a nx ny v w j k) design placement n
  unfolding net_of_design
  same_net n =
      let net = slice_index_or design.nets n no_net in
      let source = ap (λ o. unwrap_or o 0) (same_terminal a nx ny v w j k l m placement Source refl net.driver) in
      let sinks = same_sinks net.sinks in
      λ i. record { number = n; source = source i; sinks = sinks i }

  pub same_nets : (problem_from (one a nx ny v w j k) design placement).nets ≡ (problem_from (other a nx ny v w j k) design placement).nets
  unfolding problem_from
  same_nets = same_map (net_of_design (one a nx ny v w j k) design placement) (net_of_design (other a nx ny v w j k) design placement) same_net (routed_numbers design)
