-- The input pins of a net's sink are inside its box.
use Rattle.std.proofs.Common.{◌≡◌, ℕ, true, refl, sym, ap, ◌∙◌}
use Rattle.std.specs.Option.{option_map}
use Rattle.std.proofs.lemmas.Bool.{false≢true}
use Rattle.std.proofs.lemmas.Option.{same_Some}
use Rattle.routing_problem.specs.InputPins.{IsPinOf}
use Rattle.routing_problem.specs.node.Kind.{Kind}
use Rattle.routing_problem.specs.node.Kind.TheVariants.{Sink, Ipin}
use Rattle.routing_problem.specs.node.Node.{Node}
use Rattle.routing_problem.specs.Fabric.{Fabric}
use Rattle.routing_problem.specs.Nodes.{span_of}
use Rattle.routing_problem.specs.Problems.{is_sink_kind}
use Rattle.wavefront.specs.Space.{IsInside, IsWanted}
use Rattle.wavefront.specs.kept.Spaces.{LeadsOnlyTo}
use Rattle.wavefront.proofs.Insides.{sink_place_inside}
use Rattle.wavefront.proofs.PinSteps.{sink_step}
use Rattle.wavefront.proofs.Spaces.{pin_leads}
use Rattle.wavefront.proofs.WaysLeft.{edge_nodes, pin_belongs, sink_at}
use Rattle.wave_ground.specs.kept.Grounds.{Ground, IsGround}

same_place : (f : Fabric) (pin sink : Node) → pin.kind ≡ Ipin → is_sink_kind sink.kind ≡ true → pin.x ≡ sink.x → pin.y ≡ sink.y → span_of f pin ≡ span_of f sink
same_place f pin sink kind to across up = by_kind sink.kind refl to
  where
    by_kind : (k : Kind) → sink.kind ≡ k → is_sink_kind k ≡ true → span_of f pin ≡ span_of f sink
    by_kind Sink e h = rw (kind, e, across, up) refl
    by_kind _ e h = absurd (false≢true h)

module _ (g : Ground) (ok : IsGround g) (sink pin : ℕ) (tap : IsPinOf g.space.device sink pin) (wanted : IsWanted g.space sink) where
  leads : LeadsOnlyTo g.space pin sink
  leads = pin_leads g.space pin sink tap.leads tap.kind

  pub pin_inside : IsInside g.space pin
  pin_inside =
      let f = g.space.device in
      let e = edge_nodes f pin sink leads.edge in
      let kind : e.from.kind ≡ Ipin = same_Some e.from.kind Ipin (sym (ap (option_map (λ n. n.kind)) e.from_at) ∙ tap.kind) in
      let place = sink_step f e.from e.to (pin_belongs f e.from e.to kind e.edge) in
      let to = sink_at f sink e.to e.to_at (ok.space.are_sinks sink wanted) in
      sink_place_inside f g.space.bb g.space.net sink pin e.to e.from wanted e.to_at e.from_at (same_place f e.from e.to kind to place.0 place.1)

  pub sink_inside : IsInside g.space sink
  sink_inside =
      let e = edge_nodes g.space.device pin sink leads.edge in
      sink_place_inside g.space.device g.space.bb g.space.net sink sink e.to e.to wanted e.to_at e.to_at refl
