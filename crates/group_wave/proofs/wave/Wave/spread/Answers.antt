use Rattle.std.proofs.Common.{arith}
use Rattle.wave_queue.specs.kept.Queues.{entry_of}
use Rattle.group_wave.proofs.GoneOn.{popped_then}
use Rattle.group_wave.proofs.Popped.{popped_but, popped_tracks, popped_wave, popped_work}
use Rattle.group_wave.proofs.wave.Wave.spread.Goals as goal

pub go_on-requires-clause-wave : goal.go_on-requires-clause-wave
go_on-requires-clause-wave g c = popped_wave c.args.ground.now c.loop-entry.self c.pop.new.self (entry_of g.K.Key.value c.in-Some.entry) c.in-Some.ensures.some c.loop-entry.invariant.wave

pub go_on-requires-clause-tracks : goal.go_on-requires-clause-tracks
go_on-requires-clause-tracks g c = popped_tracks c.args.ground.now c.loop-entry.self c.pop.new.self (entry_of g.K.Key.value c.in-Some.entry) c.in-Some.ensures.some c.loop-entry.invariant.wave

pub go_on-requires-clause-but : goal.go_on-requires-clause-but
go_on-requires-clause-but g c = popped_but c.args.ground.now c.loop-entry.self c.pop.new.self (entry_of g.K.Key.value c.in-Some.entry) c.in-Some.ensures.some c.loop-entry.invariant.complete

pub loop-entry-smaller : goal.loop-entry-smaller
loop-entry-smaller g c =
    let less = c.in_ok-go_on.ensures.work in
    let took = popped_work c.args.ground.now c.loop-entry.self c.pop.new.self (entry_of g.K.Key.value c.in-Some.entry) c.in-Some.ensures.some in
    omega (arith, less, took)

pub loop-entry-preserved : goal.loop-entry-preserved
loop-entry-preserved g c = popped_then c.args.ground.now c.args.self.now c.loop-entry.self c.pop.new.self c.go_on.new.self (entry_of g.K.Key.value c.in-Some.entry) c.loop-entry.invariant c.in-Some.ensures.some c.in_ok-go_on.ensures.settles
