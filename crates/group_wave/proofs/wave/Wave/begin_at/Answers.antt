use Rattle.std.proofs.Common.{arith, refl, true}
use Rattle.std.proofs.lemmas.Result.{on_ok_weaker}
use Rattle.track_groups.specs.Groups.{group_at}
use Rattle.wave_ground.specs.kept.Boxes.{IsLow, wire_of}
use Rattle.wave_ground.specs.kept.Grounds.{groups_of}
use Rattle.wave_queue.specs.kept.Queues.{Waiting, entry_of}
use Rattle.group_wave.proofs.Beside.{pins_then}
use Rattle.group_wave.proofs.Entered.{spreads_then, still_out}
use Rattle.group_wave.proofs.Expanded.{first_goes_on, first_settled}
use Rattle.group_wave.proofs.wave.Wave.begin_at.Goals as goal

pub expand_tracks_to_nearer-requires : goal.expand_tracks_to_nearer-requires
expand_tracks_to_nearer-requires g c = record { out = still_out c.args.ground.now c.args.self.now c.reach_if_beside.new.self (entry_of g.K.Key.value c.args.entry) g.K.Key.greatest c.args.group.now c.in_ok-reach_if_beside.ensures.spreads c.requires.out }

pub returns : goal.returns
returns g c =
    let value = g.K.Key.value in
    let ground = c.args.ground.now in
    let e = entry_of value c.args.entry in
    let was = c.args.self.now in
    let reached = c.reach_if_beside.new.self in
    let now = c.expand_tracks_to_nearer.new.self in
    let after = c.wait.new.self in
    let second = c.in_ok-expand_tracks_to_nearer.ensures.spreads in
    let spreads = spreads_then ground was reached now c.in_ok-reach_if_beside.ensures.spreads second in
    let low : IsLow now.boxes (wire_of (group_at (groups_of ground) e.group)) c.args.wires = rw spreads.lowers.boxes (rw c.requires.out.group at c.requires.low) in
    let again : Waiting = record { key = value c.plus-2.result; label = e.label; group = e.group; tracks = e.tracks; begun = true } in
    let bound = c.bound_over.ensures in
    let near = c.plus.ensures in
    let wire = c.cut.ensures in
    let key = c.plus-2.ensures in
    on_ok_weaker c.wait.result (λ push.
    first_goes_on ground was now e c.requires.but spreads after again push c.requires.out.live.tracks c.requires.first refl
    (first_settled ground c.requires.out.ground e (record { pin = 0; sink = 0; tracks = 0 }) now spreads.wave c.requires.out.live.tracks c.args.wires low (pins_then ground e reached now c.args.wires second c.in_ok-reach_if_beside.ensures.took)
    after again push refl refl refl (omega (arith, bound, near, wire, key)) (λ k lt. c.in_ok-expand_tracks_to_nearer.ensures.took k lt lt)))
    c.wait.ensures.pushed
