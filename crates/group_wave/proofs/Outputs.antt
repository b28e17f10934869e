-- Where output pins lead, and what offering their wires a way does.
use Rattle.std.proofs.Common.{◌≡◌, ℕ, suc, ◌+◌, ◌*◌, ◌-◌, ◌<◌, ◌≤◌, ◌^◌, ◌⊎◌, true, false, List, [], ◌∷◌, length, get_or, Option, Some, None, sum_by, inl, inr, refl, sym, ap, ◌∙◌, subst, arith, w64}
use Rattle.std.specs.Prelude.{Contains}
use Rattle.std.specs.List.{list_any}
use Rattle.std.specs.Option.{option_map, option_map_or}
use Rattle.std.specs.Int.{bit_at, trailing_zeros}
use Rattle.std.proofs.lemmas.Bool.{cases_lt, eq-eqb, eqb-true, false≢true, and_parts, or_right, or_left, or_cases}
use Rattle.std.proofs.lemmas.List.{get_or_default}
use Rattle.std.proofs.lemmas.Nat.Bits.{bit_at-trailing_zeros}
use Rattle.std.proofs.lemmas.Option.{none-some, same_Some}
use Rattle.routing_problem.specs.node.Kind.{Kind}
use Rattle.routing_problem.specs.node.Kind.TheVariants.{Source, Sink, Opin, Ipin, Chanx, Chany}
use Rattle.routing_problem.specs.node.Node.{Node}
use Rattle.routing_problem.specs.Fabric.{Fabric}
use Rattle.routing_problem.specs.Nodes.{is_wire, is_wire_at, kind_of_node, node_at}
use Rattle.routing_problem.specs.Edges.{edge_between, edge_between_nodes, edge_by, is_edge}
use Rattle.routing_problem.specs.Problems.{any_node, is_sink, is_sink_kind, is_source, is_source_kind}
use Rattle.track_groups.specs.declared.group.Drive.{Drive}
use Rattle.track_groups.specs.declared.group.GroupTrack.{GroupTrack}
use Rattle.track_groups.specs.Drives.{AreDrivenBy, drive_track, drives}
use Rattle.track_groups.specs.Groups.{HasPlace, IsOn, group_at, on_track, place_of, wire_on}
use Rattle.wavefront.specs.Boxes.{box_of_net, is_in_box, touches}
use Rattle.route_tree.specs.Usage.{room_of}
use Rattle.node_cost.specs.Views.{history_in, others_in}
use Rattle.wavefront.specs.Space.{HasEdge, IsInside, Space, base_cost, entry_cost}
use Rattle.wavefront.proofs.Lists.{contains_none, contains_cases}
use Rattle.wave_ground.specs.kept.Grounds.{Ground, IsGround, groups_of}
use Rattle.group_wave.specs.kept.WaveState.{FAR, NodeLabel, Wave}
use Rattle.group_wave.specs.kept.Wave.{IsOrigin, IsWave, WentAlong, WentOn, cost_at, weight_of}
use Rattle.group_wave.specs.kept.Steps.{Enters, IsFrom, IsLabelled, IsOffer, Lowers, Relaxes, Spreads}
use Rattle.group_wave.specs.kept.Starts.{TookDrive}
use Rattle.group_wave.proofs.Entered.{spreads_refl, spreads_then}
use Rattle.group_wave.proofs.Grouped.{group_inside}
use Rattle.group_wave.proofs.Lower.{label_here, label_there, lowers_then, set_enters, set_lowers, set_wave, set_work, went_lower, went_up}
use Rattle.group_wave.proofs.Sinks.{sinks_best}
use Rattle.track_groups.proofs.OnTracks.{on_within}
use Rattle.wavefront.proofs.Spaces.{product_positive}

-- ---- kinds
from_output : (l : Kind) (f : Fabric) (a b : Node) → edge_by Opin l f a b ≡ true → is_wire l ≡ true
from_output Source f a b e = absurd (false≢true e)
from_output Sink f a b e = absurd (false≢true e)
from_output Opin f a b e = absurd (false≢true e)
from_output Ipin f a b e = absurd (false≢true e)
from_output Chanx f a b e = refl
from_output Chany f a b e = refl

from_source : (k l : Kind) (f : Fabric) (a b : Node) → is_source_kind k ≡ true → edge_by k l f a b ≡ true → l ≡ Opin
from_source Source Source f a b is e = absurd (false≢true e)
from_source Source Sink f a b is e = absurd (false≢true e)
from_source Source Opin f a b is e = refl
from_source Source Ipin f a b is e = absurd (false≢true e)
from_source Source Chanx f a b is e = absurd (false≢true e)
from_source Source Chany f a b is e = absurd (false≢true e)
from_source Sink l f a b is e = absurd (false≢true is)
from_source Opin l f a b is e = absurd (false≢true is)
from_source Ipin l f a b is e = absurd (false≢true is)
from_source Chanx l f a b is e = absurd (false≢true is)
from_source Chany l f a b is e = absurd (false≢true is)

-- a node of none of these kinds is a source
other_kind : (k : Kind) → is_source_kind k ≡ false → (is_wire k ≡ true) ⊎ ((k ≡ Opin) ⊎ ((k ≡ Ipin) ⊎ (is_sink_kind k ≡ true)))
other_kind Source e = absurd (false≢true (sym e))
other_kind Sink e = inr (inr (inr refl))
other_kind Opin e = inr (inl refl)
other_kind Ipin e = inr (inr (inl refl))
other_kind Chanx e = inl refl
other_kind Chany e = inl refl

output_nodes : (f : Fabric) (o p : Option Node) → option_map (λ n. n.kind) o ≡ Some Opin → edge_between_nodes f o p ≡ true → option_map_or is_wire (option_map (λ n. n.kind) p) false ≡ true
unfolding is_edge
output_nodes f None p k e = absurd (none-some _ k)
output_nodes f (Some a) None k e = absurd (false≢true e)
output_nodes f (Some a) (Some b) k e = from_output b.kind f a b (subst (λ x. edge_by x b.kind f a b ≡ true) (same_Some a.kind Opin k) e)

pub output_leads : (f : Fabric) (pin v : ℕ) → kind_of_node f pin ≡ Some Opin → edge_between f pin v ≡ true → is_wire_at f v ≡ true
unfolding edge_between
output_leads f pin v k e = output_nodes f (node_at f pin) (node_at f v) k e

source_nodes : (f : Fabric) (o p : Option Node) → any_node is_source_kind o ≡ true → edge_between_nodes f o p ≡ true → option_map (λ n. n.kind) p ≡ Some Opin
unfolding is_edge
source_nodes f None p is e = absurd (false≢true is)
source_nodes f (Some a) None is e = absurd (false≢true e)
source_nodes f (Some a) (Some b) is e = ap (λ (k : Kind). Some k) (from_source a.kind b.kind f a b is e)

pub source_leads : (f : Fabric) (a v : ℕ) → is_source f a ≡ true → edge_between f a v ≡ true → kind_of_node f v ≡ Some Opin
unfolding edge_between is_source
source_leads f a v is e = source_nodes f (node_at f a) (node_at f v) is e

other_node : (f : Fabric) (o p : Option Node) → edge_between_nodes f o p ≡ true → any_node is_source_kind p ≡ false
    → (option_map_or is_wire (option_map (λ n. n.kind) p) false ≡ true) ⊎ ((option_map (λ n. n.kind) p ≡ Some Opin) ⊎ ((option_map (λ n. n.kind) p ≡ Some Ipin) ⊎ (any_node is_sink_kind p ≡ true)))
other_node f None None e other = absurd (false≢true e)
other_node f (Some m) None e other = absurd (false≢true e)
other_node f o (Some n) e other = elim (other_kind n.kind other) [
  | inl wire ↦ inl wire
  | inr more ↦ elim more [
    | inl out ↦ inr (inl (ap (λ (k : Kind). Some k) out))
    | inr rest ↦ elim rest [ inl pin ↦ inr (inr (inl (ap (λ (k : Kind). Some k) pin))) | inr sink ↦ inr (inr (inr sink)) ]
  ]
]

-- what is entered is a wire, an output pin, an input pin or a sink
pub entered_kind : (f : Fabric) (a v : ℕ) → edge_between f a v ≡ true → is_source f v ≡ false
    → (is_wire_at f v ≡ true) ⊎ ((kind_of_node f v ≡ Some Opin) ⊎ ((kind_of_node f v ≡ Some Ipin) ⊎ (is_sink f v ≡ true)))
unfolding edge_between is_source is_sink
entered_kind f a v e other = other_node f (node_at f a) (node_at f v) e other

no_sink_node : (o : Option Node) → option_map (λ n. n.kind) o ≡ Some Opin → any_node is_sink_kind o ≡ true → ⊥
no_sink_node None k is = none-some _ k
no_sink_node (Some n) k is = false≢true (sym (ap is_sink_kind (same_Some n.kind Opin k)) ∙ is)

pub output_no_sink : (f : Fabric) (v : ℕ) → kind_of_node f v ≡ Some Opin → is_sink f v ≡ true → ⊥
unfolding is_sink
output_no_sink f v k is = no_sink_node (node_at f v) k is

-- ---- drives
any_drive : (p : GroupTrack) (ds : List Drive) (d : Drive) → list_any (drives p) ds ≡ true → (k : ℕ) × (k < length ds) × ((get_or ds k d).group ≡ p.group) × (bit_at (get_or ds k d).tracks p.track ≡ 1)
any_drive p [] d e = absurd (false≢true e)
any_drive p (x ∷ xs) d e = elim (or_cases (drives p x) (list_any (drives p) xs) e) [
  | inl here ↦ let h = and_parts _ _ here in (0, omega arith, eqb-true x.group p.group h.0, eqb-true _ _ h.1)
  | inr later ↦ let r = any_drive p xs d later in (suc r.0, (let lt = r.1 in omega (arith, lt)), r.2, r.3)
]

pub drive_there : (ds : List Drive) (p : GroupTrack) (d : Drive) → drive_track ds p ≡ true → (k : ℕ) × (k < length ds) × ((get_or ds k d).group ≡ p.group) × (bit_at (get_or ds k d).tracks p.track ≡ 1)
unfolding drive_track
drive_there ds p d e = any_drive p ds d e

drives_here : (p : GroupTrack) (d : Drive) → d.group ≡ p.group → bit_at d.tracks p.track ≡ 1 → drives p d ≡ true
drives_here p d same bit = rw (eq-eqb d.group p.group same) (eq-eqb (bit_at d.tracks p.track) 1 bit)

any_bit : (p : GroupTrack) (ds : List Drive) (d : Drive) → Contains ds d → drives p d ≡ true → list_any (drives p) ds ≡ true
any_bit p [] d h e = absurd (contains_none d h)
any_bit p (x ∷ xs) d h e = elim (contains_cases x d xs h) [
  | inl same ↦ or_left (drives p x) _ (rw (← same) e)
  | inr later ↦ or_right (drives p x) _ (any_bit p xs d later e)
]

pub drive_bit : (ds : List Drive) (d : Drive) (j : ℕ) → Contains ds d → bit_at d.tracks j ≡ 1 → drive_track ds (on_track d.group j) ≡ true
unfolding drive_track
drive_bit ds d j h bit = any_bit (on_track d.group j) ds d h (drives_here (on_track d.group j) d refl bit)

-- of the drives before place i, all were offered the way
pub record IsDriving (g : Ground) (pin : ℕ) (s t : Wave) (label i : ℕ) : Type 0 where
  pub spreads : Spreads g s t
  pub took : (k : ℕ) (d : Drive) → k < i → k < length (get_or g.drives pin []) → TookDrive g t label (get_or (get_or g.drives pin []) k d)

module _ (g : Ground) (ok : IsGround g) (pin : ℕ) (kind : kind_of_node g.space.device pin ≡ Some Opin) where
  abbrev driven : List Drive
  driven = get_or g.drives pin []

  told : AreDrivenBy g.space.device g.tables.wires pin driven
  told = ok.driven pin kind

  module _ (d : Drive) (there : Contains driven d) where
    pub drive_on : (j : ℕ) → bit_at d.tracks j ≡ 1 → IsOn (groups_of g) (on_track d.group j)
    drive_on j bit = told.on (on_track d.group j) (drive_bit driven d j there bit)

    pub drive_edge : (j : ℕ) → bit_at d.tracks j ≡ 1 → HasEdge g.space pin (wire_on (groups_of g) (on_track d.group j))
    drive_edge j bit = told.edges (on_track d.group j) (drive_on j bit) ∙ drive_bit driven d j there bit

    pub drive_group : 0 < d.tracks → d.tracks < 2 ^ 64 → d.group < length (groups_of g)
    drive_group some fits = on_within (groups_of g) (on_track d.group (trailing_zeros w64 d.tracks)) (drive_on _ (bit_at-trailing_zeros w64 d.tracks some fits).1)

    inside_of : (j : ℕ) → bit_at d.tracks j ≡ 1 → is_in_box g.space.device g.space.bb g.space.net (wire_on (groups_of g) (on_track d.group j)) ≡ touches g.space.bb (box_of_net g.space.device g.space.net) (group_at (groups_of g) d.group).span
    inside_of j bit = group_inside g ok (on_track d.group j) (drive_on j bit)

    pub drive_offer : (w : Wave) (label : ℕ) → cost_at w pin ≤ label → touches g.space.bb (box_of_net g.space.device g.space.net) (group_at (groups_of g) d.group).span ≡ true → IsOffer g w label pin 0 d.group d.tracks
    drive_offer w label from inside =
        let at : (j : ℕ) → pin + j * 0 ≡ pin = λ j. omega arith in
        record {
          on = drive_on;
          edge = λ j bit. rw (at j) (drive_edge j bit);
          inside = λ j bit. inside_of j bit ∙ inside;
          from = λ j bit. rw (at j) from;
        }

    -- none of the group's wires is inside
    pub drive_outside : (w : Wave) (label : ℕ) → touches g.space.bb (box_of_net g.space.device g.space.net) (group_at (groups_of g) d.group).span ≡ false → TookDrive g w label d
    drive_outside w label out j bit within = absurd (false≢true (sym (inside_of j bit ∙ out) ∙ within))

    pub drive_took : (s t : Wave) (label : ℕ) → Relaxes g s t label d.group d.tracks → TookDrive g t label d
    drive_took s t label relaxes j bit within = relaxes.went j bit

  pub driving_first : (s : Wave) (label : ℕ) → IsWave g s → IsDriving g pin s s label 0
  driving_first s label wave = record { spreads = spreads_refl g s wave; took = λ k d lt. absurd (omega (arith, lt)) }

  pub driving_more : (s t u : Wave) (label i : ℕ) (here : Drive) → IsDriving g pin s t label i → Spreads g t u → TookDrive g u label (get_or driven i here) → IsDriving g pin s u label (i + 1)
  driving_more s t u label i here before step took = record {
    spreads = spreads_then g s t u before.spreads step;
    took = λ k d lt within. elim (cases_lt k i) [
      | inl less ↦ λ j bit inside. went_lower g t u (λ v. ⊥) label _ step.lowers (before.took k d less within j bit inside)
      | inr ge ↦
          let e : k ≡ i = omega (arith, lt, ge) in
          let same : get_or driven i here ≡ get_or driven k d = ap (λ n. get_or driven n here) (sym e) ∙ get_or_default driven k here d within in
          subst (TookDrive g u label) same took
    ];
  }

  -- then the label went on along each edge of the pin
  pub driving_all : (s t : Wave) (label i : ℕ) → length driven ≤ i → IsDriving g pin s t label i → WentAlong g t pin label
  driving_all s t label i all done b edge inside =
      let place : HasPlace g.tables.wires b = ok.tabled.grouped.wires b (output_leads g.space.device pin b kind edge) in
      let p : GroupTrack = place_of g.tables.wires b in
      let none : Drive = record { group = 0; tracks = 0 } in
      let is : wire_on (groups_of g) p ≡ b = place.is in
      let there = drive_there driven p none (sym (told.edges p place.on) ∙ subst (HasEdge g.space pin) (sym is) edge) in
      let lt = there.1 in
      let same : wire_on (groups_of g) (on_track (get_or driven there.0 none).group p.track) ≡ b = ap (λ k. wire_on (groups_of g) (on_track k p.track)) there.2 ∙ is in
      subst (WentOn g t label) same (done.took there.0 none (omega (arith, lt, all)) lt p.track there.3 (subst (IsInside g.space) (sym same) inside))

-- ---- an output pin is entered from the source
pub output_costs : (s : Space) (v : ℕ) → kind_of_node s.device v ≡ Some Opin → 0 < entry_cost s v
unfolding entry_cost
output_costs s v kind =
    let base : option_map_or base_cost (kind_of_node s.device v) 0 ≡ 20 = ap (λ o. option_map_or base_cost o 0) kind in
    product_positive (option_map_or base_cost (kind_of_node s.device v) 0 + history_in s.view v) (16 + s.present * (others_in s.view v + 1 - room_of s.device (node_at s.device v))) (omega (arith, base)) (omega arith)

module _ (g : Ground) (ok : IsGround g) (s : Wave) (wave : IsWave g s) (pin : ℕ) (start : IsOrigin s g.space.net.source) (edge : HasEdge g.space g.space.net.source pin) where
  pub output_kind : kind_of_node g.space.device pin ≡ Some Opin
  output_kind = source_leads g.space.device g.space.net.source pin ok.source edge

  pub output_in : pin < length s.labels
  output_in = let rows = wave.rows in let lt = ok.space.range g.space.net.source pin edge in omega (arith, rows, lt)

  pub output_from : IsFrom g s 0 g.space.net.source pin
  output_from = let some = output_costs g.space pin output_kind in record { edge = edge; from = (let z = start.0 in omega (arith, z)); near = omega arith; some = omega (arith, some) }

  module _ (t : Wave) (cost : ℕ) (set : IsLabelled s t pin (record { cost = cost; parent = g.space.net.source; price = cost })) (inside : IsInside g.space pin) (less : cost < cost_at s pin) (near : cost < FAR) (sum : cost ≡ entry_cost g.space pin) where
    output_down : Lowers g s t (λ v. v ≡ pin)
    output_down = set_lowers g s t pin _ set output_in less (let z = start.0 in omega (arith, z))

    pub output_at : cost_at t pin ≡ cost
    output_at = ap (λ (l : NodeLabel). l.cost) (label_here g s t pin _ set output_in)

    pub output_wave : IsWave g t
    output_wave =
        let z = start.0 in
        set_wave g s t pin _ set output_in wave (omega (arith, less)) near output_down.origins
        (set_enters g s t pin _ set output_in 0 (omega (arith, less)) (omega (arith, z)) (omega arith) edge inside (omega (arith, sum)) sum)

    pub output_lowered : (u : Wave) → t.best ≡ s.best → Spreads g t u → WentAlong g u pin cost → Enters g s u 0 pin
    output_lowered u best second went = record {
      spreads = record {
        wave = second.wave;
        lowers = let both = lowers_then g s t u (λ v. v ≡ pin) (λ v. ⊥) (λ v. (v ≡ pin) × (cost_at u v ≡ cost_at t v)) output_down second.lowers (λ v e same. (e, same)) (λ v none. absurd none) in record {
          down = both.down;
          wait = λ v. elim (both.wait v) [
            | inl same ↦ inl same
            | inr later ↦ elim later [
              | inl settled ↦ inr (inl settled)
              | inr new ↦ inr (inl (λ b on within.
                  let k : cost_at u v ≡ cost = new.1 ∙ ap (cost_at t) new.0 ∙ output_at in
                  inl (went_up g u cost (cost_at u v) b (omega (arith, k)) (went b (rw new.0 at on) within))))
            ]
          ];
          origins = both.origins;
          kept = both.kept;
          limit = both.limit;
          boxes = both.boxes;
        };
        work = let a = set_work g s t pin _ set output_in less in let b = ap (λ q. sum_by weight_of q) set.queue in let c = second.work in omega (arith, a, b, c);
        best = λ was. second.best (sinks_best g s t output_down.origins (record {
          best = best;
          labels = λ b wanted. label_there g s t pin _ set output_in b (λ e. output_no_sink g.space.device pin output_kind (ok.space.are_sinks pin (rw e at wanted)));
        }) was);
      };
      went = λ h. inr (let d = second.lowers.down pin in let here = output_at in omega (arith, d, here, sum));
    }

-- ---- all output pins are entered
module _ (g : Ground) (pins : List ℕ) where
  pub record IsEntering (s t : Wave) (i : ℕ) : Type 0 where
    pub spreads : Spreads g s t
    pub went : (k : ℕ) → k < i → k < length pins → IsInside g.space (get_or pins k 0) → WentOn g t 0 (get_or pins k 0)

  pub entering_more : (s t u : Wave) (i : ℕ) → IsEntering s t i → Enters g t u 0 (get_or pins i 0) → IsEntering s u (i + 1)
  entering_more s t u i before step = record {
    spreads = spreads_then g s t u before.spreads step.spreads;
    went = λ k lt within inside. elim (cases_lt k i) [
      | inl less ↦ went_lower g t u (λ v. ⊥) 0 _ step.spreads.lowers (before.went k less within inside)
      | inr ge ↦ let e : k ≡ i = omega (arith, lt, ge) in subst (λ j. WentOn g u 0 (get_or pins j 0)) (sym e) (step.went (subst (λ j. IsInside g.space (get_or pins j 0)) e inside))
    ];
  }

  pub entering_all : (s t : Wave) (i : ℕ) → length pins ≤ i → IsEntering s t i → (pin : ℕ) → Contains pins pin → IsInside g.space pin → WentOn g t 0 pin
  entering_all s t i all done pin (k, lt, found) inside =
      let e : get_or pins k 0 ≡ pin = get_or_default pins k 0 pin lt ∙ found in
      subst (WentOn g t 0) e (done.went k (omega (arith, lt, all)) lt (subst (IsInside g.space) (sym e) inside))
