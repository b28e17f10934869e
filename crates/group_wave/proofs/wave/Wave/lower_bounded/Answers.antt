use Rattle.std.proofs.Common.{arith, ap, subst}
use Rattle.std.proofs.lemmas.Result.{on_ok_weaker}
use Rattle.track_groups.proofs.OnTracks.{on_within}
use Rattle.track_groups.specs.Groups.{on_track}
use Rattle.wavefront.specs.kept.Bounds.{left_over}
use Rattle.wave_ground.specs.kept.Grounds.{groups_of}
use Rattle.group_wave.specs.kept.WaveState.{FAR}
use Rattle.group_wave.specs.kept.Wave.{IsBound}
use Rattle.group_wave.proofs.Grouped.{group_bound}
use Rattle.group_wave.proofs.Noted.{noted_label}
use Rattle.group_wave.proofs.Relaxed.{step_after, track_after}
use Rattle.group_wave.proofs.wave.Wave.lower_bounded.Goals as goal

pub wires_left-wires-requires-clause-group : goal.wires_left-wires-requires-clause-group
wires_left-wires-requires-clause-group g c = on_within (groups_of c.args.ground.now) (on_track c.args.step.group c.args.to.track) c.requires.to.on

pub lower_by-requires-clause-from : goal.lower_by-requires-clause-from
lower_by-requires-clause-from g c = step_after c.args.ground.now c.args.self.now c.wires_left-wires.new.self (g.K.Key.value c.args.step.label) c.args.to.wire c.args.to.parent FAR c.wires_left-wires.ensures.noted c.requires.from

pub lower_by-requires-clause-less : goal.lower_by-requires-clause-less
lower_by-requires-clause-less g c =
    let same = ap (λ l. l.cost) (noted_label c.args.ground.now c.args.self.now c.wires_left-wires.new.self FAR c.wires_left-wires.ensures.noted c.args.to.wire) in
    let less = c.requires.less in
    omega (arith, less, same)

pub lower_by-requires-clause-key : goal.lower_by-requires-clause-key
lower_by-requires-clause-key g c = let key = c.plus.ensures in omega (arith, key)

pub lower_by-requires-clause-low : goal.lower_by-requires-clause-low
lower_by-requires-clause-low g c b way target walk =
    let ground = c.args.ground.now in
    let mid = c.wires_left-wires.new.self in
    let bound = subst (λ v. IsBound ground mid v (left_over c.wires_left-wires.result)) c.requires.to.is
    (group_bound ground c.requires.ground (on_track c.args.step.group c.args.to.track) c.requires.to.on mid c.wires_left-wires.ensures.wave.boxes c.wires_left-wires.result c.wires_left-wires.ensures.low) in
    let most = bound b way target walk in
    let key = c.plus.ensures in
    let up = c.bound_over.ensures in
    omega (arith, most, key, up)

pub returns : goal.returns
returns g c =
    let value = g.K.Key.value in
    on_ok_weaker c.lower_by.result (λ step. track_after c.args.ground.now c.args.self.now c.wires_left-wires.new.self c.lower_by.new.self (value c.args.step.label) (value c.args.step.least) c.args.to.wire FAR c.wires_left-wires.ensures.noted step) c.lower_by.ensures
