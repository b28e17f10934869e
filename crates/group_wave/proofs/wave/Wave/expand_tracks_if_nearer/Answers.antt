use Rattle.std.proofs.Common.{arith, inr}
use Rattle.std.proofs.lemmas.Result.{on_ok_weaker}
use Rattle.wave_queue.specs.kept.Queues.{entry_of}
use Rattle.group_wave.proofs.Beside.{beside_within}
use Rattle.group_wave.proofs.Entered.{noted_spreads, spreads_then, still_out}
use Rattle.group_wave.proofs.wave.Wave.expand_tracks_if_nearer.Goals as goal

pub wires_left-requires-clause-group : goal.wires_left-requires-clause-group
wires_left-requires-clause-group g c = beside_within c.args.ground.now (entry_of g.K.Key.value c.args.entry) c.requires.out.ground c.args.neighbour c.requires.beside c.requires.out.live.tracks c.args.self.now c.requires.out.live

pub returns-then-wires_left-wires-clause-spreads : goal.returns-then-wires_left-wires-clause-spreads
returns-then-wires_left-wires-clause-spreads g c = noted_spreads c.args.ground.now c.args.self.now c.wires_left.new.self _ c.wires_left.ensures.noted c.wires_left.ensures.wave

pub returns-then-wires_left-wires-clause-took : goal.returns-then-wires_left-wires-clause-took
returns-then-wires_left-wires-clause-took g c = inr (λ box there. let low = c.wires_left.ensures.low box there in let more = c.if-wires_left-wires.true in omega (arith, low, more))

pub expand_tracks_to_one-requires-clause-out : goal.expand_tracks_to_one-requires-clause-out
expand_tracks_to_one-requires-clause-out g c =
    still_out c.args.ground.now c.args.self.now c.wires_left.new.self (entry_of g.K.Key.value c.args.entry) g.K.Key.greatest c.args.group.now
    (noted_spreads c.args.ground.now c.args.self.now c.wires_left.new.self _ c.wires_left.ensures.noted c.wires_left.ensures.wave) c.requires.out

pub returns-clause-spreads : goal.returns-clause-spreads
returns-clause-spreads g c =
    on_ok_weaker c.expand_tracks_to_one.result
    (spreads_then c.args.ground.now c.args.self.now c.wires_left.new.self c.expand_tracks_to_one.new.self (noted_spreads c.args.ground.now c.args.self.now c.wires_left.new.self _ c.wires_left.ensures.noted c.wires_left.ensures.wave))
    c.expand_tracks_to_one.ensures.spreads
