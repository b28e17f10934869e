use Rattle.std.proofs.Common.{inl}
use Rattle.std.proofs.lemmas.Bool.{false≢true}
use Rattle.group_wave.proofs.Entered.{shut_dead, sink_row, spreads_refl}
use Rattle.group_wave.proofs.Lower.{dead_bound}
use Rattle.group_wave.proofs.wave.Wave.reach_from.Goals as goal

pub is_open-requires-clause-there : goal.is_open-requires-clause-there
is_open-requires-clause-there g c = sink_row c.args.ground.now c.requires.ground c.args.self.now c.requires.wave c.args.tap.sink c.args.tap.pin c.requires.tap

pub returns-then-not-is_open : goal.returns-then-not-is_open
returns-then-not-is_open g c = record {
  spreads = spreads_refl c.args.ground.now c.args.self.now c.requires.wave;
  went = λ inside. inl (dead_bound c.args.ground.now c.args.self.now c.args.tap.pin _ (shut_dead c.args.ground.now c.requires.ground c.args.self.now c.requires.wave c.args.tap.sink c.args.tap.pin c.requires.tap (λ target. false≢true (c.if-not-is_open.ensures.1 target))));
}
