-- What every search finds of the device, the net and the costs.
use Rattle.std.proofs.Common.{◌≡◌, ℕ, ◌+◌, ◌-◌, ◌*◌, ◌<◌, ◌≤◌, ◌^◌, true, false, [], ◌∷◌, Option, Some, None, inl, inr, refl, sym, ap, ◌∙◌, arith}
use Rattle.std.specs.Option.{option_map, option_map_or, unwrap_or}
use Rattle.std.proofs.lemmas.Bool.{false≢true, cases_lt}
use Rattle.std.proofs.Math.Nat.{mul-le-mul}
use Rattle.std.proofs.lemmas.List.Elements.{All-contains}
use Rattle.std.proofs.lemmas.Option.{slice_get-get_or, slice_get_past, none-some}
use Rattle.routing_problem.specs.node.Kind.{Kind}
use Rattle.routing_problem.specs.node.Kind.TheVariants.{Source, Sink, Opin, Ipin, Chanx, Chany}
use Rattle.routing_problem.specs.node.Node.{Node}
use Rattle.routing_problem.specs.Fabric.{Fabric, IsFabric}
use Rattle.routing_problem.specs.Nodes.{nodes_of, node_at, node_count_of, kind_of_node, capacity_of}
use Rattle.routing_problem.specs.Edges.{edge_between_nodes, edge_between, successors_of}
use Rattle.routing_problem.specs.Problems.{IsNet, is_source_kind, is_sink_kind, any_node, is_source, is_sink}
use Rattle.routing_problem.proofs.Capacities.{some_capacity}
use Rattle.routing_problem.proofs.EdgeEnds.{enters_no_source, leaves_no_sink, pin_enters_sink, source_or_sink}
use Rattle.routing_problem.proofs.Graph.{edge_to_node, successors_contain}
use Rattle.route_tree.specs.Usage.{room_of}
use Rattle.node_cost.specs.Views.{others_in, history_in}
use Rattle.node_cost.proofs.Bounds.{factor_bounded, cost_bounded}
use Rattle.wavefront.proofs.Lists.{contains_first, contains_none, contains_cases}
use Rattle.wavefront.proofs.Insides.{source_inside}
use Rattle.wavefront.specs.Space.{Space, HasEdge, IsWanted, base_cost, entry_cost}
use Rattle.wavefront.specs.kept.Spaces.{IsSpace, LeadsOnlyTo, node_count}

source_node : (f : Fabric) (a : ℕ) → is_source f a ≡ true → a < node_count_of f
unfolding is_source
source_node f a e = elim (cases_lt a (node_count_of f)) [
  | inl l ↦ l
  | inr past ↦ absurd (false≢true (sym (ap (any_node is_source_kind) (slice_get_past (nodes_of f) a past)) ∙ e))
]

sink_node : (f : Fabric) (a : ℕ) → is_sink f a ≡ true → a < node_count_of f
unfolding is_sink
sink_node f a e = elim (cases_lt a (node_count_of f)) [
  | inl l ↦ l
  | inr past ↦ absurd (false≢true (sym (ap (any_node is_sink_kind) (slice_get_past (nodes_of f) a past)) ∙ e))
]

-- ---- where an input pin leads
pub pin_leads : (space : Space) (v sink : ℕ) → successors_of space.device v ≡ sink ∷ [] → kind_of_node space.device v ≡ Some Ipin → LeadsOnlyTo space v sink
pin_leads space v sink listed pin =
    let edge : HasEdge space v sink = (successors_contain space.device v sink).0 (rw listed (contains_first sink [])) in
    record {
      edge = edge;
      only = λ b e. elim (contains_cases sink b [] (rw listed at (successors_contain space.device v b).1 e)) [ inl same ↦ same | inr none ↦ absurd (contains_none b none) ];
      last = λ b e. false≢true (sym (leaves_no_sink space.device sink b e) ∙ pin_enters_sink space.device v sink pin edge);
    }

-- ---- costs
pub room_is : (f : Fabric) (o : Option Node) → unwrap_or (option_map (capacity_of f) o) 0 ≡ room_of f o
room_is f None = refl
room_is f (Some n) = refl

pub some_room : (f : Fabric) (v : ℕ) → IsFabric f → v < node_count_of f → 1 ≤ room_of f (node_at f v)
some_room f v within lt = by_node (node_at f v) refl
  where
    by_node : (o : Option Node) → node_at f v ≡ o → 1 ≤ room_of f o
    by_node None e = absurd (none-some _ (sym e ∙ slice_get-get_or (nodes_of f) v (record { kind = Source; x = 0; y = 0; number = 0 }) lt))
    by_node (Some n) e = some_capacity f within v n e

small_base : (k : Kind) → base_cost k ≤ 20
small_base Source = omega arith
small_base Sink = omega arith
small_base Opin = omega arith
small_base Ipin = omega arith
small_base Chanx = omega arith
small_base Chany = omega arith

small_base_in : (o : Option Kind) → option_map_or base_cost o 0 ≤ 20
small_base_in None = omega arith
small_base_in (Some k) = small_base k

pub product_positive : (a b : ℕ) → 1 ≤ a → 1 ≤ b → 0 < a * b
product_positive a b h g = let p : 1 * 1 ≤ a * b = mul-le-mul h g in omega (arith, p)

dear_kind : (k : Kind) → is_sink_kind k ≡ false → 1 ≤ base_cost k
dear_kind Source e = omega arith
dear_kind Sink e = absurd (false≢true (sym e))
dear_kind Opin e = omega arith
dear_kind Ipin e = omega arith
dear_kind Chanx e = omega arith
dear_kind Chany e = omega arith

dear_in : (f : Fabric) (a b : Option Node) → edge_between_nodes f a b ≡ true → any_node is_sink_kind a ≡ false → 1 ≤ option_map_or base_cost (option_map (λ n. n.kind) a) 0
dear_in f None b e other = absurd (none_leads b e)
  where
    none_leads : (b : Option Node) → edge_between_nodes f None b ≡ true → ⊥
    none_leads None e = false≢true e
    none_leads (Some n) e = false≢true e
dear_in f (Some m) b e other = dear_kind m.kind other

dear : (f : Fabric) (a b : ℕ) → edge_between f a b ≡ true → 1 ≤ option_map_or base_cost (kind_of_node f a) 0
unfolding edge_between is_sink
dear f a b e = dear_in f (node_at f a) (node_at f b) e (leaves_no_sink f a b e)

positive : (space : Space) (v b : ℕ) → HasEdge space v b → 0 < entry_cost space v
unfolding entry_cost
positive space v b edge =
    let base = dear space.device v b edge in
    product_positive (option_map_or base_cost (kind_of_node space.device v) 0 + history_in space.view v) (16 + space.present * (others_in space.view v + 1 - room_of space.device (node_at space.device v))) (omega (arith, base)) (omega arith)

pub cheap : (space : Space) (v : ℕ) → space.present ≤ 1048576 → others_in space.view v ≤ 65535 → history_in space.view v ≤ 2 ^ 42 → entry_cost space v < 2 ^ 80
unfolding entry_cost
cheap space v present others history =
    let base = small_base_in (kind_of_node space.device v) in
    let f = space.device in
    cost_bounded (option_map_or base_cost (kind_of_node f v) 0 + history_in space.view v) (16 + space.present * (others_in space.view v + 1 - room_of f (node_at f v)))
    (omega (arith, base, history)) (fewer_pay (room_of f (node_at f v)))
  where
    fewer_pay : (room : ℕ) → 16 + space.present * (others_in space.view v + 1 - room) ≤ 2 ^ 37
    fewer_pay room = factor_bounded space.present (others_in space.view v + 1 - room) present (omega (arith, others))

-- ---- all of it
pub is_space : (space : Space) → IsFabric space.device → IsNet space.device space.net → node_count space < 8388608 → space.present ≤ 1048576 → ((v : ℕ) → others_in space.view v ≤ 65535) → ((v : ℕ) → history_in space.view v ≤ 2 ^ 42) → IsSpace space
is_space space fabric net few present others histories =
    let f = space.device in
    let sinks : (v : ℕ) → IsWanted space v → is_sink f v ≡ true = λ v wanted. All-contains (λ s. is_sink f s ≡ true) space.net.sinks v net.sinks wanted in
    record {
      fabric = fabric;
      few = few;
      range = λ a b edge. edge_to_node f a b edge;
      source_in = source_node f space.net.source net.source;
      source_inside = source_inside f space.bb space.net net.source;
      sinks_in = λ v wanted. sink_node f v (sinks v wanted);
      are_sinks = sinks;
      ascending = net.ascending;
      some_sink = let some = net.some_sinks in omega (arith, some);
      begins = λ a edge. false≢true (sym (enters_no_source f a space.net.source edge) ∙ net.source);
      ends = λ a b edge. leaves_no_sink f a b edge;
      apart = λ wanted. source_or_sink f space.net.source net.source (sinks space.net.source wanted);
      costly = λ a v b into on. positive space v b on;
      cheap = λ v lt. cheap space v present (others v) (histories v);
    }
