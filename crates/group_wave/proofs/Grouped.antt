-- What groups tell of their wires: where they lie, and how far it is to the sinks.
use Rattle.std.proofs.Common.{◌≡◌, ℕ, ◌-◌, ◌<◌, ◌≤◌, true, Contains, Option, Some, None, inl, inr, refl, slice_index, subst, sym, ap, ◌∙◌, arith}
use Rattle.std.specs.Option.{option_map}
use Rattle.std.proofs.lemmas.Bool.{cases_Bool, false≢true}
use Rattle.std.proofs.lemmas.List.{get_or_default}
use Rattle.std.proofs.lemmas.Option.{same_Some, none-some}
use Rattle.routing_problem.specs.node.Kind.TheVariants.{Ipin}
use Rattle.routing_problem.specs.node.Node.{Node}
use Rattle.routing_problem.specs.Fabric.{Fabric}
use Rattle.routing_problem.specs.Nodes.{is_wire, is_wire_at, kind_of_node, node_at, span_of, wire_in}
use Rattle.track_groups.specs.declared.group.Group.{Group}
use Rattle.track_groups.specs.declared.group.GroupTrack.{GroupTrack}
use Rattle.track_groups.specs.Groups.{IsOn, group_at, wire_on}
use Rattle.track_groups.proofs.WiresTold.{track_is_wire}
use Rattle.wavefront.specs.Boxes.{BoundingBox, box_of_net, is_in_box, touches}
use Rattle.wavefront.specs.Space.{HasEdge, IsWanted}
use Rattle.wavefront.specs.kept.Bounds.{IsWireAt, Surrounds, left_over, steps_within, wires_by_kind, wires_to}
use Rattle.wave_ground.specs.kept.Boxes.{IsLow, SinkBox, wire_of}
use Rattle.wavefront.specs.kept.Spaces.{node_count}
use Rattle.wavefront.proofs.WaysLeft.{edge_nodes, pin_left, way_left, wire_leads}
use Rattle.wave_ground.specs.kept.Grounds.{Ground, IsGround, groups_of}
use Rattle.group_wave.specs.kept.WaveState.{Wave}
use Rattle.group_wave.specs.kept.Wave.{IsBound, IsDead, IsOpen, Serves}
use Rattle.wave_ground.proofs.Opened.{inside_is}

reported_wire : (f : Fabric) (v : ℕ) (group : Group) → wire_in f (node_at f v) ≡ Some (group.kind, group.span, group.reach) → IsWireAt f v (wire_of group)
unfolding wire_in
reported_wire f v group e = by_node (node_at f v) refl e
  where
    by_node : (o : Option Node) → node_at f v ≡ o → wire_in f o ≡ Some (group.kind, group.span, group.reach) → IsWireAt f v (wire_of group)
    by_node None at h = absurd (none-some _ h)
    by_node (Some n) at h = elim (cases_Bool (is_wire n.kind)) [
      | inl wire ↦
          let same = same_Some _ _ (rw wire at h) in
          record { node = n; there = at; is = wire; kind = sym (ap (λ p. p.0) same); span = sym (ap (λ p. p.1) same); steps = ap (λ r. r - 1) (sym (ap (λ p. p.2) same)) }
      | inr other ↦ absurd (none-some _ (rw other at h))
    ]

-- an open sink's box
record HasBox (g : Ground) (w : Wave) (b : ℕ) : Type 0 where
  box : SinkBox
  there : Contains w.boxes box
  around : Surrounds g.space.device box.place b

box_of : (g : Ground) (w : Wave) → Serves g w → (b : ℕ) → IsOpen g w b → IsWanted g.space b → HasBox g w b
box_of g w serves b target (k, lt, found) =
    let e : slice_index g.space.net.sinks k ≡ b = get_or_default g.space.net.sinks k 0 b lt ∙ found in
    let served = serves k lt (subst (IsOpen g w) (sym e) target) in
    record { box = served.box; there = served.there; around = subst (Surrounds g.space.device served.box.place) e served.around }

module _ (g : Ground) (ok : IsGround g) (p : GroupTrack) (on : IsOn (groups_of g) p) where
  abbrev wire : ℕ
  wire = wire_on (groups_of g) p

  abbrev group : Group
  group = group_at (groups_of g) p.group

  pub group_wire : IsWireAt g.space.device wire (wire_of group)
  group_wire = reported_wire g.space.device wire group (ok.tabled.grouped.tracks p on).wire

  pub is_wire_here : is_wire_at g.space.device wire ≡ true
  is_wire_here = track_is_wire g.space.device g.tables.wires ok.tabled.grouped p on

  pub wire_within : wire < node_count g.space
  wire_within = ok.wires wire is_wire_here

  -- all wires of a group are inside the box, or none
  pub group_inside : is_in_box g.space.device g.space.bb g.space.net wire ≡ touches g.space.bb (box_of_net g.space.device g.space.net) group.span
  group_inside = let at = group_wire in inside_is g.space.device g.space.bb g.space.net wire (Some group.span) (ap (option_map (span_of g.space.device)) at.there ∙ ap (λ s. Some s) (sym at.span))

  reported : (box : BoundingBox) (at : IsWireAt g.space.device wire (wire_of group)) → wires_to box (wire_of group) ≡ wires_by_kind (steps_within g.space.device at.node.number) at.node.kind box (span_of g.space.device at.node)
  reported box at = rw (at.kind, at.span, at.steps) refl

  module _ (w : Wave) (serves : Serves g w) (wires : ℕ) (low : IsLow w.boxes (wire_of group) wires) where
    -- no way on costs less than so many wires and a pin
    pub group_bound : IsBound g w wire (left_over wires)
    group_bound b way target walk =
        let has = box_of g w serves b target target.0 in
        let there = group_wire in
        let least = low has.box has.there in
        let same = reported has.box.place there in
        let left = way_left g.space ok.space has.box.place b has.around (ok.space.are_sinks b target.0) way wire there.node there.there there.is walk in
        omega (arith, least, same, left)

    -- where another wire leads on, each pin is a dead end
    pub far_pin : (pin : ℕ) → 1 ≤ wires → HasEdge g.space wire pin → kind_of_node g.space.device pin ≡ Some Ipin → IsDead g w pin
    far_pin pin some edge is b way target walk =
        let has = box_of g w serves b target target.0 in
        let there = group_wire in
        let least = low has.box has.there in
        let same = reported has.box.place there in
        let e = edge_nodes g.space.device wire pin edge in
        let from = same_Some there.node e.from (sym there.there ∙ e.from_at) in
        elim (wire_leads g.space.device there.node e.to there.is (rw from e.edge)) [
          | inl next ↦
              let kind : e.to.kind ≡ Ipin = same_Some e.to.kind Ipin (sym (ap (option_map (λ n. n.kind)) e.to_at) ∙ is) in
              absurd (false≢true (sym (ap is_wire kind) ∙ next))
          | inr enters ↦
              let none = pin_left g.space ok.space has.box.place b has.around (ok.space.are_sinks b target.0) (steps_within g.space.device there.node.number) way pin there.node e.to e.to_at enters walk in
              omega (arith, least, same, some, none)
        ]
