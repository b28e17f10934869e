use Rattle.std.proofs.Common.{length, subst}
use Rattle.std.specs.Prelude.{OnOk}
use Rattle.wave_queue.specs.kept.Queues.{entry_of}
use Rattle.group_wave.specs.kept.Steps.{TookBefore}
use Rattle.group_wave.proofs.wave.Wave.expand_track.Goals as goal

pub returns-clause-took : goal.returns-clause-took
returns-clause-took g c =
    subst (λ hs. OnOk c.expand_track_to_unsettled.result (TookBefore c.args.ground.now c.expand_track_to_unsettled.new.self (entry_of g.K.Key.value c.args.entry) hs (length hs)))
    c.neighbours-neighbours.ensures c.expand_track_to_unsettled.ensures.took

pub returns-then-neighbours-gt64-clause-took : goal.returns-then-neighbours-gt64-clause-took
returns-then-neighbours-gt64-clause-took g c =
    subst (λ hs. OnOk c.expand_track_to_many.result (TookBefore c.args.ground.now c.expand_track_to_many.new.self (entry_of g.K.Key.value c.args.entry) hs (length hs)))
    c.neighbours-neighbours.ensures c.expand_track_to_many.ensures.took
