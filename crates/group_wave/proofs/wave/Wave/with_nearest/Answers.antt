use Rattle.std.proofs.Common.{◌∙◌, arith, sym}
use Rattle.std.proofs.lemmas.Bool.{false≢true}
use Rattle.group_wave.proofs.Nearests.{no_dearer, still_none}
use Rattle.group_wave.proofs.wave.Wave.with_nearest.Goals as goal

pub is_nearest-requires-clause-there : goal.is_nearest-requires-clause-there
is_nearest-requires-clause-there g c = omega (arith, c.requires.ground.space.sinks_in c.args.sink c.requires.sink, c.requires.wave.rows)

pub first_of-requires-clause-sink : goal.first_of-requires-clause-sink
first_of-requires-clause-sink g c = let is = c.is_nearest.ensures.0 c.if-not-is_nearest.false in no_dearer c.args.ground.now c.args.self.now c.args.sink c.requires.best c.requires.sink is.0 is.1

pub returns-then-not-is_nearest-clause-none : goal.returns-then-not-is_nearest-clause-none
returns-then-not-is_nearest-clause-none g c = still_none c.args.first _ (λ near. false≢true (sym c.if-not-is_nearest.true ∙ c.is_nearest.ensures.1 (near.«open».1, omega (arith, near.at))))
