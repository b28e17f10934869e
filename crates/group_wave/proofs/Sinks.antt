-- Where the best and the labels of sinks stay, and that no wire is a sink.
use Rattle.std.proofs.Common.{◌≡◌, ℕ, true, false, Option, Some, None, inl, inr, sym, ap, ◌∙◌, arith}
use Rattle.std.specs.Option.{option_map, option_map_or}
use Rattle.std.proofs.lemmas.Bool.{false≢true}
use Rattle.routing_problem.specs.node.Node.{Node}
use Rattle.routing_problem.specs.Fabric.{Fabric}
use Rattle.routing_problem.specs.Nodes.{node_at, is_wire, is_wire_at}
use Rattle.routing_problem.specs.Problems.{any_node, is_sink, is_sink_kind}
use Rattle.wave_ground.specs.kept.Grounds.{Ground}
use Rattle.group_wave.specs.kept.WaveState.{Wave}
use Rattle.group_wave.specs.kept.Wave.{IsBest}
use Rattle.group_wave.specs.kept.Steps.{KeepsSinks, SameOrigins}
use Rattle.group_wave.proofs.Lower.{keeps, still_open}
use Rattle.wavefront.proofs.WaysLeft.{wire_no_sink as no_sink_kind}

wire_node : (o : Option Node) → option_map_or is_wire (option_map (λ n. n.kind) o) false ≡ true → any_node is_sink_kind o ≡ true → ⊥
wire_node None e h = false≢true e
wire_node (Some n) e h = no_sink_kind n.kind e h

pub wire_no_sink : (f : Fabric) (v : ℕ) → is_wire_at f v ≡ true → is_sink f v ≡ true → ⊥
unfolding is_sink
wire_no_sink f v wire sink = wire_node (node_at f v) wire sink

pub sinks_then : (g : Ground) (s t u : Wave) → KeepsSinks g s t → KeepsSinks g t u → KeepsSinks g s u
sinks_then g s t u a b = record { best = b.best ∙ a.best; labels = λ v wanted. b.labels v wanted ∙ a.labels v wanted }

pub sinks_best : (g : Ground) (s t : Wave) → SameOrigins s t → KeepsSinks g s t → IsBest g s → IsBest g t
sinks_best g s t same kept best = record {
  low = λ b target.
      let l = best.low b (still_open g s t b (keeps s t same) target) in
      let k = ap (λ l. l.cost) (kept.labels b target.0) in
      let e = kept.best in
      omega (arith, l, k, e);
  met = elim best.met [
    | inl far ↦ inl (kept.best ∙ far)
    | inr met ↦
        let wanted = met.1.0 in
        inr (met.0, (wanted, λ o. met.1.1 ((same met.0).0 o)), ap (λ l. l.cost) (kept.labels met.0 wanted) ∙ met.2 ∙ sym kept.best)
  ];
}
