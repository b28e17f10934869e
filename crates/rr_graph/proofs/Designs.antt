-- Placed designs: which nodes terminals have, in which order sinks come, and that a design that
-- suits a device is a routing problem.
use Rattle.std.proofs.Common.{◌≡◌, ℕ, ◌+◌, ◌<◌, ◌≤◌, Bool, true, false, eqb, ◌||◌, not, List, [], ◌∷◌, ◌++◌, length, map, filter, get_or, All, Option, Some, None, refl, sym, ap, subst, ◌∙◌, arith, zero-add}
use Rattle.std.specs.Prelude.{nat_eq, nat_lt, is_some, unwrap_or, option_and_then, slice_get, slice_index_or}
use Rattle.std.specs.List.{list_any, list_all, filter_map, cons_option}
use Rattle.std.specs.List.Retain.{DiffersFromLast, IsFiltered}
use Rattle.std.specs.List.Sorted.{IsStrictlyIncreasing, IsSorted, IsPermutation}
use Rattle.std.specs.Option.{option_eq}
use Rattle.std.specs.Ordering.{nat_cmp}
use Rattle.std.proofs.lemmas.Bool.{and_parts, or_left, eqb-true, eq-eqb, ltb-true}
use Rattle.std.proofs.lemmas.List.{length-map, get_or_default}
use Rattle.std.proofs.lemmas.List.Elements.{All-nil, All-cons, All-map, All-get_or}
use Rattle.std.proofs.lemmas.List.FromFn.{length-range_with_len, get_or-range_with_len}
use Rattle.std.proofs.lemmas.List.Kept.{IsStrictlyIncreasing-filter}
use Rattle.std.proofs.lemmas.List.Sums.{AllPass-from_list_all, length-filter, count_by-le-length}
use Rattle.std.proofs.lemmas.Option.{slice_get_within}
use Rattle.net_file.specs.declared.terminal.Terminal.{Terminal}
use Rattle.net_file.specs.Facts.{IsNetlist}
use Rattle.net_file.specs.Netlist as netlist
use Rattle.net_file.specs.Routed.{no_net, is_routed_net, is_routed_at, routed_numbers}
use Rattle.place_file.specs.Placement.{Placement}
use Rattle.channel_tables.specs.declared.node.Kind.{Kind}
use Rattle.channel_tables.specs.declared.node.Kind.TheVariants.{Source, Sink}
use Rattle.channel_tables.specs.declared.node.Node.{Node}
use Rattle.channel_tables.specs.Fabric.{Fabric, numbers_below, is_block}
use Rattle.node_numbers.specs.Nodes.{node_of, nodes_of, node_count_of, node_at, number_of, any_node, is_source_kind, is_sink_kind, is_source, is_sink}
use Rattle.routing_problem.specs.Problems.{Net, IsNet, IsProblem}
use Rattle.rr_graph.specs.Designs.{label_on, node_on, terminal_node, has_node, has_nodes, has_size_of, are_on_sites, suits_design, stands_at, nodes_of_sinks, net_on_device, net_of_design, problem_from}
use Rattle.node_numbers.proofs.Ascending.{below_ascend, all_kept, kept_below, in_order}
use Rattle.node_numbers.proofs.Order.{node_of_number}
use Rattle.channel_tables.proofs.Ranges.{kept_more, skipped_more}

-- ---- the node of a terminal

then_some : {A B : Type 0} (g : A → Option B) (o : Option A) (y : B) → option_and_then g o ≡ Some y → (x : A) × (o ≡ Some x) × (g x ≡ Some y)
then_some g (Some x) y e = (x, refl, e)
then_some g None y e = absurd cc

module _ (f : Fabric) (kind : Kind) (placement : Placement) (terminal : Terminal) (i : ℕ) (found : terminal_node f kind placement terminal ≡ Some i) where
  pub found_there : (n : Node) × (node_at f i ≡ Some n) × (n.kind ≡ kind)
  unfolding terminal_node
  found_there =
      let site = then_some (node_on f kind terminal.class) (slice_get placement.sites terminal.block) i found in
      let s = site.0 in
      let number = then_some (λ n. number_of f (node_of kind s.x s.y n)) (label_on (is_block f s.x s.y) terminal.class s) i site.2 in
      (node_of kind s.x s.y number.0, node_of_number f i (node_of kind s.x s.y number.0) number.2, refl)

  pub found_below : i < node_count_of f
  found_below = slice_get_within (nodes_of f) i found_there.0 found_there.1

  kind_there : (test : Kind → Bool) → test kind ≡ true → any_node test (node_at f i) ≡ true
  kind_there test e = ap (any_node test) found_there.1 ∙ ap test found_there.2 ∙ e

pub source_there : (f : Fabric) (placement : Placement) (terminal : Terminal) (i : ℕ) → terminal_node f Source placement terminal ≡ Some i → is_source f i ≡ true
unfolding is_source
source_there f placement terminal i e = kind_there f Source placement terminal i e is_source_kind refl

pub sink_there : (f : Fabric) (placement : Placement) (terminal : Terminal) (i : ℕ) → terminal_node f Sink placement terminal ≡ Some i → is_sink f i ≡ true
unfolding is_sink
sink_there f placement terminal i e = kind_there f Sink placement terminal i e is_sink_kind refl

-- ---- the nodes of sinks

module _ (find_node : Terminal → Option ℕ) where
  one_tells : (i : ℕ) (o : Option ℕ) (rest : List ℕ) (b : Bool) → b ≡ list_any (eqb i) rest → (option_eq nat_eq (Some i) o || b) ≡ list_any (eqb i) (cons_option o rest)
  one_tells i None rest b e = e
  one_tells i (Some n) rest b e = ap (λ c. eqb i n || c) e

  tells : (terminals : List Terminal) (i : ℕ) → list_any (λ t. option_eq nat_eq (Some i) (find_node t)) terminals ≡ list_any (eqb i) (filter_map find_node terminals)
  tells [] i = refl
  tells (t ∷ ts) i = one_tells i (find_node t) (filter_map find_node ts) _ (tells ts i)

  module _ (P : ℕ → Type 0) (each : (t : Terminal) (i : ℕ) → find_node t ≡ Some i → P i) where
    one_found : (o : Option ℕ) (rest : List ℕ) → ((i : ℕ) → o ≡ Some i → P i) → All P rest → All P (cons_option o rest)
    one_found None rest h all = all
    one_found (Some i) rest h all = All-cons P i rest (h i refl) all

    all_found : (terminals : List Terminal) → All P (filter_map find_node terminals)
    all_found [] = All-nil P
    all_found (t ∷ ts) = one_found (find_node t) (filter_map find_node ts) (each t) (all_found ts)

  -- what a test finds is the node of a terminal
  module _ {P : Type 0} (i : ℕ) (each : (t : Terminal) → find_node t ≡ Some i → P) where
    same_number : (o : Option ℕ) → option_eq nat_eq (Some i) o ≡ true → o ≡ Some i
    same_number None e = absurd cc
    same_number (Some n) e = ap Some (sym (eqb-true i n e))

    by_terminal : (t : Terminal) (b c : Bool) → b ≡ option_eq nat_eq (Some i) (find_node t) → (b || c) ≡ true → (c ≡ true → P) → P
    by_terminal t true c is e rest = each t (same_number (find_node t) (sym is))
    by_terminal t false c is e rest = rest e

    found_by : (terminals : List Terminal) → list_any (λ t. option_eq nat_eq (Some i) (find_node t)) terminals ≡ true → P
    found_by [] e = absurd cc
    found_by (t ∷ ts) e = by_terminal t _ (list_any (λ u. option_eq nat_eq (Some i) (find_node u)) ts) refl e (λ h. found_by ts h)

-- sorted, and each once, the nodes of the sinks are those at which a sink stands
pub sinks_in_order :
    (f : Fabric) (placement : Placement) (sinks : List Terminal) (xs ys zs : List ℕ) → xs ≡ filter_map (terminal_node f Sink placement) sinks
    → IsPermutation xs ys → IsSorted nat_cmp ys → IsFiltered (DiffersFromLast eqb) [] ys zs → zs ≡ nodes_of_sinks f placement sinks
unfolding nodes_of_sinks
sinks_in_order f placement sinks xs ys zs are moved sorted kept =
    let node = terminal_node f Sink placement in
    in_order (λ i. list_any (stands_at f Sink placement i) sinks) (node_count_of f) (filter_map node sinks) ys zs
    (all_found node (λ i. i < node_count_of f) (λ t i e. found_below f Sink placement t i e) sinks)
    (tells node sinks) (subst (λ ns. IsPermutation ns ys) are moved) sorted kept

-- ---- the problem

unwrapped : {P : ℕ → Type 0} (o : Option ℕ) → is_some o ≡ true → ((i : ℕ) → o ≡ Some i → P i) → P (unwrap_or o 0)
unwrapped (Some i) e each = each i refl
unwrapped None e each = absurd cc

one_stands : (i : ℕ) (o : Option ℕ) → o ≡ Some i → option_eq nat_eq (Some i) o ≡ true
one_stands i o e = rw e (eq-eqb i i refl)

some_kept : (p : ℕ → Bool) (m i : ℕ) → i < m → p i ≡ true → 1 ≤ length (filter p (numbers_below m))
some_kept p m i l e = let h = kept_below p m i l e in omega (arith, h.1)

module _ (f : Fabric) (placement : Placement) where
  some_sink : (sinks : List Terminal) → 1 ≤ length sinks → list_all (has_node f Sink placement) sinks ≡ true → 1 ≤ length (nodes_of_sinks f placement sinks)
  unfolding nodes_of_sinks
  some_sink [] some all = absurd (omega arith)
  some_sink (t ∷ ts) some all =
      let here = (and_parts (has_node f Sink placement t) (list_all (has_node f Sink placement) ts) all).0 in
      unwrapped {P = λ i. 1 ≤ length (nodes_of_sinks f placement (t ∷ ts))} (terminal_node f Sink placement t) here
      (λ i e. some_kept (λ j. list_any (stands_at f Sink placement j) (t ∷ ts)) (node_count_of f) i (found_below f Sink placement t i e) (or_left _ _ (one_stands i _ e)))

  joined : (number : ℕ) (net : netlist.Net) → is_routed_net net ≡ true → has_nodes f placement net ≡ true → IsNet f (net_on_device f placement number net)
  unfolding nodes_of_sinks
  joined number net routed nodes =
      let parts = and_parts (has_node f Source placement net.driver) (list_all (has_node f Sink placement) net.sinks) nodes in
      let some = ltb-true 0 (length net.sinks) (and_parts (not net.global) (nat_lt 0 (length net.sinks)) routed).1 in
      let stands = λ (i : ℕ). list_any (stands_at f Sink placement i) net.sinks in
      record {
        source = unwrapped {P = λ i. is_source f i ≡ true} (terminal_node f Source placement net.driver) parts.0 (λ i e. source_there f placement net.driver i e);
        some_sinks = some_sink net.sinks some parts.1;
        sinks = all_kept stands (λ i. is_sink f i ≡ true) (numbers_below (node_count_of f))
            (λ k d l e. found_by (terminal_node f Sink placement) _ (λ t h. sink_there f placement t _ h) net.sinks e);
        ascending = IsStrictlyIncreasing-filter stands (numbers_below (node_count_of f)) (below_ascend (node_count_of f));
      }

implied : (a b : Bool) → (not a || b) ≡ true → a ≡ true → b ≡ true
implied true b e h = e
implied false b e h = absurd cc

-- a net's number is its place in the netlist
numbers_of : (f : Fabric) (design : netlist.Netlist) (placement : Placement) (ns : List ℕ) → map (λ n. n.number) (map (net_of_design f design placement) ns) ≡ ns
unfolding net_of_design
numbers_of f design placement [] = refl
numbers_of f design placement (n ∷ ns) = ap (λ rest. n ∷ rest) (numbers_of f design placement ns)

-- the nets of the problem keep their numbers
pub numbers_kept : (f : Fabric) (design : netlist.Netlist) (placement : Placement) → map (λ n. n.number) (problem_from f design placement).nets ≡ routed_numbers design
unfolding problem_from
numbers_kept f design placement = numbers_of f design placement (routed_numbers design)

module _ (f : Fabric) (design : netlist.Netlist) (placement : Placement) (suits : suits_design f design placement ≡ true) where
  joins_nodes : (n : ℕ) → n < length design.nets → is_routed_at design n ≡ true → has_nodes f placement (slice_index_or design.nets n no_net) ≡ true
  unfolding suits_design
  joins_nodes n l routed =
      let inner = and_parts (has_size_of f placement) _ suits in
      let nets = (and_parts (are_on_sites placement (length design.blocks)) _ inner.1).1 in
      let test : netlist.Net → Bool = λ net. not (is_routed_net net) || has_nodes f placement net in
      implied (is_routed_at design n) _ (All-get_or (λ net. test net ≡ true) design.nets n no_net l (AllPass-from_list_all test design.nets nets)) routed

  net_joined : (n : ℕ) → n < length design.nets → is_routed_at design n ≡ true → IsNet f (net_of_design f design placement n)
  unfolding net_of_design
  net_joined n l routed = joined f placement n (slice_index_or design.nets n no_net) routed (joins_nodes n l routed)

  few_routed : length (routed_numbers design) ≤ length design.nets
  unfolding routed_numbers
  few_routed =
      let all = numbers_below (length design.nets) in
      omega (arith, length-filter (is_routed_at design) all, count_by-le-length (is_routed_at design) all, length-range_with_len 0 (length design.nets))

  routed_ascend : IsStrictlyIncreasing (routed_numbers design)
  unfolding routed_numbers
  routed_ascend = IsStrictlyIncreasing-filter (is_routed_at design) (numbers_below (length design.nets)) (below_ascend (length design.nets))

  all_joined : All (λ n. IsNet f (net_of_design f design placement n)) (routed_numbers design)
  unfolding routed_numbers
  all_joined =
      let count = length design.nets in
      all_kept (is_routed_at design) (λ n. IsNet f (net_of_design f design placement n)) (numbers_below count)
      (λ k d l routed.
      let within : k < count = omega (arith, l, length-range_with_len 0 count) in
      let here : get_or (numbers_below count) k d ≡ k = get_or-range_with_len 0 count k d within ∙ zero-add k in
      net_joined (get_or (numbers_below count) k d) (subst (λ n. n < count) (sym here) within) routed)

  -- a placed design that suits a device is a routing problem on it
  pub is_problem : IsNetlist design → IsProblem (problem_from f design placement)
  unfolding problem_from
  is_problem limits =
      record {
        few = omega (arith, length-map (routed_numbers design) (net_of_design f design placement), few_routed, limits.few_nets);
        ascending = subst IsStrictlyIncreasing (sym (numbers_of f design placement (routed_numbers design))) routed_ascend;
        nets = All-map (IsNet f) (net_of_design f design placement) (routed_numbers design) all_joined;
      }

-- ---- the nets of the problem, one number more
module _ (f : Fabric) (design : netlist.Netlist) (placement : Placement) (nets : List netlist.Net) (n : ℕ) (net : netlist.Net) (before : List Net)
    (are : nets ≡ design.nets) (within : n < length nets) (here : net ≡ get_or nets n net)
    (so_far : before ≡ map (net_of_design f design placement) (filter (is_routed_at design) (numbers_below n))) where
  it_is : slice_index_or design.nets n no_net ≡ net
  it_is = ap (λ ns. get_or ns n no_net) (sym are) ∙ get_or_default nets n no_net net within ∙ sym here

  pub routed_more : is_routed_net net ≡ true → (made : Net) → made ≡ net_on_device f placement n net → (after : List Net) → after ≡ before ++ made ∷ []
      → after ≡ map (net_of_design f design placement) (filter (is_routed_at design) (numbers_below (n + 1)))
  unfolding net_of_design
  routed_more routed made is after pushed =
      let g = net_of_design f design placement in
      let one : made ≡ g n = is ∙ ap (net_on_device f placement n) (sym it_is) in
      pushed ∙ ap (λ xs. xs ++ made ∷ []) so_far ∙ ap (λ x. map g (filter (is_routed_at design) (numbers_below n)) ++ x ∷ []) one
      ∙ kept_more (is_routed_at design) g [] n (ap is_routed_net it_is ∙ routed)

  pub skipped_one : is_routed_net net ≡ false → before ≡ map (net_of_design f design placement) (filter (is_routed_at design) (numbers_below (n + 1)))
  skipped_one not_routed = so_far ∙ skipped_more (is_routed_at design) (net_of_design f design placement) [] n (ap is_routed_net it_is ∙ not_routed)

pub all_routed : (f : Fabric) (design : netlist.Netlist) (placement : Placement) (n : ℕ) (nets : List Net) → n ≡ length design.nets
    → nets ≡ map (net_of_design f design placement) (filter (is_routed_at design) (numbers_below n)) → nets ≡ map (net_of_design f design placement) (routed_numbers design)
unfolding routed_numbers
all_routed f design placement n nets all are = are ∙ ap (λ m. map (net_of_design f design placement) (filter (is_routed_at design) (numbers_below m))) all
