use Rattle.std.proofs.Common.{◌≤◌, ◌∙◌, subst, sym}
use Rattle.wavefront.specs.Space.{HasEdge}
use Rattle.group_wave.specs.kept.Wave.{cost_at}
use Rattle.group_wave.proofs.Tapped.{first_one, no_both, on_wire, second_one}
use Rattle.group_wave.proofs.wave.Wave.reach.Goals as goal

pub returns-then-tapped-eq0-clause-took : goal.returns-then-tapped-eq0-clause-took
returns-then-tapped-eq0-clause-took g c j one two inside = absurd (no_both c.args.entry.tracks c.args.tap.tracks j c.if-tapped-eq0.true one two)

pub reach_from-requires-clause-edge : goal.reach_from-requires-clause-edge
reach_from-requires-clause-edge g c =
    let one = first_one c.args.entry.tracks c.args.tap.tracks c.track-track.result c.track-track.ensures.one in
    let two = second_one c.args.entry.tracks c.args.tap.tracks c.track-track.result c.track-track.ensures.one in
    let wire = c.node_on-wire.ensures ∙ on_wire c.args.ground.now c.args.group.now c.args.entry.group c.track-track.result c.requires.out.group in
    subst (λ v. HasEdge c.args.ground.now.space v c.args.tap.pin) (sym wire) (c.requires.tap.edges c.track-track.result (c.requires.out.live.tracks c.track-track.result one) two)

pub reach_from-requires-clause-from : goal.reach_from-requires-clause-from
reach_from-requires-clause-from g c =
    let one = first_one c.args.entry.tracks c.args.tap.tracks c.track-track.result c.track-track.ensures.one in
    let wire = c.node_on-wire.ensures ∙ on_wire c.args.ground.now c.args.group.now c.args.entry.group c.track-track.result c.requires.out.group in
    subst (λ v. cost_at c.args.self.now v ≤ g.K.Key.value c.args.entry.label) (sym wire) (c.requires.out.live.labels c.track-track.result one)
