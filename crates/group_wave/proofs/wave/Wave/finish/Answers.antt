use Rattle.track_groups.specs.Groups.{group_at}
use Rattle.wave_ground.specs.kept.Boxes.{IsLow, wire_of}
use Rattle.wave_ground.specs.kept.Grounds.{groups_of}
use Rattle.wave_queue.specs.kept.Queues.{entry_of}
use Rattle.group_wave.proofs.Beside.{pins_then}
use Rattle.group_wave.proofs.Entered.{spreads_then, still_out}
use Rattle.group_wave.proofs.Expanded.{rest_goes_on, rest_went}
use Rattle.group_wave.proofs.Starts.{on_ok_two}
use Rattle.group_wave.proofs.wave.Wave.finish.Goals as goal

pub expand_to_all-requires : goal.expand_to_all-requires
expand_to_all-requires g c = record { out = still_out c.args.ground.now c.args.self.now c.reach_if_beside.new.self (entry_of g.K.Key.value c.args.entry) g.K.Key.greatest c.args.group.now c.in_ok-reach_if_beside.ensures.spreads c.requires.out }

pub returns : goal.returns
returns g c =
    let ground = c.args.ground.now in
    let e = entry_of g.K.Key.value c.args.entry in
    let was = c.args.self.now in
    let reached = c.reach_if_beside.new.self in
    let now = c.expand_to_all.new.self in
    let first = c.in_ok-reach_if_beside.ensures.spreads in
    on_ok_two c.expand_to_all.result (λ second took.
    let spreads = spreads_then ground was reached now first second in
    let low : IsLow now.boxes (wire_of (group_at (groups_of ground) e.group)) c.args.wires = rw spreads.lowers.boxes (rw c.requires.out.group at c.requires.low) in
    rest_goes_on ground was now e c.requires.but spreads
    (rest_went ground c.requires.out.ground e (record { pin = 0; sink = 0; tracks = 0 }) now spreads.wave c.requires.out.live.tracks c.args.wires low (pins_then ground e reached now c.args.wires second c.in_ok-reach_if_beside.ensures.took)
    (λ k lt. took k lt lt)))
    c.expand_to_all.ensures.spreads c.expand_to_all.ensures.took
