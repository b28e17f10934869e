use Rattle.std.proofs.Common.{ap, arith}
use Rattle.std.proofs.lemmas.Result.{on_ok_weaker}
use Rattle.group_wave.proofs.Starting.{place_in, wire_starts}
use Rattle.group_wave.proofs.wave.Wave.start_wire.Goals as goal
use Rattle.track_groups.proofs.OnTracks.{on_within}

pub group-few-requires : goal.group-few-requires
group-few-requires g c = rw c.place-place.ensures (on_within _ _ c.requires.place.on)

pub wires_left-wires-requires-clause-group : goal.wires_left-wires-requires-clause-group
wires_left-wires-requires-clause-group g c = rw c.place-place.ensures (on_within _ _ c.requires.place.on)

pub set-requires-clause-there : goal.set-requires-clause-there
set-requires-clause-there g c = omega (arith, c.wires_left-wires.ensures.wave.rows, place_in c.args.ground.now c.requires.ground c.args.wire c.requires.place)

pub returns : goal.returns
returns g c = on_ok_weaker c.wait.result (λ r. wire_starts c.args.ground.now c.requires.ground c.args.self.now c.wires_left-wires.new.self c.set.new.self c.wait.new.self c.args.wire c.requires.place _ c.wires_left-wires.result c.wires_left-wires.ensures.noted c.wires_left-wires.ensures.wave c.requires.complete
    (omega (arith, c.wires_left-wires.ensures.wave.rows, place_in c.args.ground.now c.requires.ground c.args.wire c.requires.place)) (rw c.zero-label.ensures at c.in_ok-set.ensures.set) r (omega (arith, c.plus.ensures, c.zero-label.ensures, c.bound_over.ensures))
    (rw c.place-place.ensures at c.wires_left-wires.ensures.low) c.zero-label.ensures (ap (λ p. p.group) c.place-place.ensures) (rw c.place-place.ensures at c.with_bit.ensures)) c.wait.ensures.pushed
