use Rattle.group_wave.proofs.Taken.{none_left, some_taken}
use Rattle.group_wave.proofs.wave.Wave.take_sink.Goals as goal

pub returns-clause-taken : goal.returns-clause-taken
returns-clause-taken g c = some_taken c.args.ground.now c.args.self.now c.spread.new.self c.in_ok-spread.ensures.settles c.requires.best c.in_ok-spread.ensures.above c.nearest_sink.result c.nearest_sink.ensures.some c.nearest_sink.ensures.reached

pub returns-clause-spent : goal.returns-clause-spent
returns-clause-spent g c = none_left c.args.ground.now c.args.self.now c.spread.new.self c.in_ok-spread.ensures.settles c.requires.best c.in_ok-spread.ensures.above c.nearest_sink.result c.nearest_sink.ensures.none
