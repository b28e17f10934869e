use Rattle.std.proofs.Common.{◌+◌, ◌≤◌, subst, sym, arith}
use Rattle.std.proofs.lemmas.Result.{on_ok_weaker}
use Rattle.track_groups.specs.Groups.{on_track}
use Rattle.track_groups.proofs.OnTracks.{on_within}
use Rattle.wave_ground.specs.kept.Boxes.{IsLow, wire_of}
use Rattle.wave_ground.specs.kept.Grounds.{groups_of}
use Rattle.wave_queue.specs.kept.Queues.{entry_of}
use Rattle.group_wave.specs.kept.WaveState.{FAR, Wave}
use Rattle.group_wave.specs.kept.Wave.{IsCompleteBut, IsOf, weight_of, work_of}
use Rattle.group_wave.specs.kept.Steps.{IsOut, Settles}
use Rattle.group_wave.proofs.Entered.{noted_spreads, still_out}
use Rattle.group_wave.proofs.Expanded.{weight_some}
use Rattle.group_wave.proofs.GoneOn.{again_settles, again_work, noted_but, noted_same, noted_then}
use Rattle.group_wave.proofs.wave.Wave.go_on_from.Goals as goal

pub wires_left-wires-requires-clause-group : goal.wires_left-wires-requires-clause-group
wires_left-wires-requires-clause-group g c =
    let some = c.requires.out.live.some in
    on_within (groups_of c.args.ground.now) (on_track c.args.entry.group some.0) (c.requires.out.live.tracks some.0 some.1)

pub returns-then-branch-clause-settles : goal.returns-then-branch-clause-settles
returns-then-branch-clause-settles g c =
    let again = c.in_ok-look_again.ensures.waits c.if-branch.true in
    again_settles c.args.ground.now c.requires.out.ground c.args.self.now c.wires_left-wires.new.self (entry_of g.K.Key.value c.args.entry) FAR c.wires_left-wires.ensures.noted c.wires_left-wires.ensures.wave c.requires.but c.requires.out.live c.look_again.new.self c.wires_left-wires.result c.wires_left-wires.ensures.low again

pub returns-then-branch-clause-work : goal.returns-then-branch-clause-work
returns-then-branch-clause-work g c =
    let again = c.in_ok-look_again.ensures.waits c.if-branch.true in
    let fewer = c.in_ok-look_again.ensures.fewer c.if-branch.true in
    let sum = again_work c.args.ground.now c.requires.out.ground c.args.self.now c.wires_left-wires.new.self (entry_of g.K.Key.value c.args.entry) FAR c.wires_left-wires.ensures.noted c.wires_left-wires.ensures.wave c.requires.but c.requires.out.live c.look_again.new.self c.wires_left-wires.result c.wires_left-wires.ensures.low again in
    let same = noted_same c.args.ground.now c.requires.out.ground c.args.self.now c.wires_left-wires.new.self (entry_of g.K.Key.value c.args.entry) FAR c.wires_left-wires.ensures.noted c.wires_left-wires.ensures.wave in
    let some = weight_some c.args.entry.is_begun in
    omega (arith, fewer, sum, same, some)

pub expand-requires-clause-out : goal.expand-requires-clause-out
expand-requires-clause-out g c =
    let same = c.in_ok-look_again.ensures.same c.if-branch.false in
    let e = entry_of g.K.Key.value c.args.entry in
    subst (λ (w : Wave). IsOut c.args.ground.now w e g.K.Key.greatest c.args.group.now) (sym same)
    (still_out c.args.ground.now c.args.self.now c.wires_left-wires.new.self e g.K.Key.greatest c.args.group.now
    (noted_spreads c.args.ground.now c.args.self.now c.wires_left-wires.new.self _ c.wires_left-wires.ensures.noted c.wires_left-wires.ensures.wave) c.requires.out)

pub expand-requires-clause-low : goal.expand-requires-clause-low
expand-requires-clause-low g c =
    let same = c.in_ok-look_again.ensures.same c.if-branch.false in
    subst (λ (w : Wave). IsLow w.boxes (wire_of c.args.group.now) c.wires_left-wires.result) (sym same) (rw c.requires.out.group c.wires_left-wires.ensures.low)

pub expand-requires-clause-but : goal.expand-requires-clause-but
expand-requires-clause-but g c =
    let same = c.in_ok-look_again.ensures.same c.if-branch.false in
    subst (λ (w : Wave). IsCompleteBut c.args.ground.now w (IsOf c.args.ground.now w (entry_of g.K.Key.value c.args.entry))) (sym same)
    (noted_but c.args.ground.now c.requires.out.ground c.args.self.now c.wires_left-wires.new.self (entry_of g.K.Key.value c.args.entry) FAR c.wires_left-wires.ensures.noted c.wires_left-wires.ensures.wave c.requires.but)

pub returns-clause-settles : goal.returns-clause-settles
returns-clause-settles g c =
    let same = c.in_ok-look_again.ensures.same c.if-branch.false in
    on_ok_weaker c.expand.result (λ after. noted_then c.args.ground.now c.requires.out.ground c.args.self.now c.wires_left-wires.new.self (entry_of g.K.Key.value c.args.entry) FAR c.wires_left-wires.ensures.noted c.wires_left-wires.ensures.wave c.expand.new.self
    (subst (λ (w : Wave). Settles c.args.ground.now w c.expand.new.self) same after.settles)) c.expand.ensures

pub returns-clause-work : goal.returns-clause-work
returns-clause-work g c =
    let same = c.in_ok-look_again.ensures.same c.if-branch.false in
    let most = c.in_ok-look_again.ensures.most in
    let down = noted_same c.args.ground.now c.requires.out.ground c.args.self.now c.wires_left-wires.new.self (entry_of g.K.Key.value c.args.entry) FAR c.wires_left-wires.ensures.noted c.wires_left-wires.ensures.wave in
    on_ok_weaker c.expand.result (λ after.
    let work = subst (λ (w : Wave). work_of c.expand.new.self + 1 ≤ work_of w + weight_of (entry_of g.K.Key.value c.args.entry)) same after.work in
    omega (arith, work, most, down)) c.expand.ensures
