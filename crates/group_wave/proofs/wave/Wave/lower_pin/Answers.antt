use Rattle.std.proofs.Common.{◌<◌, ℕ, arith}
use Rattle.std.proofs.lemmas.Result.{on_ok_weaker}
use Rattle.group_wave.specs.kept.WaveState.{FAR}
use Rattle.group_wave.proofs.Entered.{pin_from, pin_lowered, pin_wave}
use Rattle.group_wave.proofs.wave.Wave.lower_pin.Goals as goal
use Rattle.group_wave.proofs.wave.Wave.lower_pin.Given.{Over}

narrow : (g : Over) → (cost : ℕ) → cost < g.K.Key.greatest → cost < FAR
narrow g cost fits = let law = g.met.K.Key.narrow in omega (arith, law, fits)

pub enter_sink-requires-clause-wave : goal.enter_sink-requires-clause-wave
enter_sink-requires-clause-wave g c = pin_wave c.args.ground.now c.requires.ground c.args.self.now c.requires.wave c.args.tap.sink c.args.tap.pin c.requires.tap c.set.new.self (g.K.Key.value c.args.cost) c.args.wire (g.K.Key.value c.args.price) c.requires.price c.in_ok-set.ensures.set c.requires.enters (narrow g _ c.requires.fits)

pub enter_sink-requires-clause-from : goal.enter_sink-requires-clause-from
enter_sink-requires-clause-from g c = pin_from c.args.ground.now c.requires.ground c.args.self.now c.requires.wave c.args.tap.sink c.args.tap.pin c.requires.tap c.set.new.self (g.K.Key.value c.args.cost) c.args.wire (g.K.Key.value c.args.price) c.requires.price c.in_ok-set.ensures.set c.requires.enters (narrow g _ c.requires.fits)

pub returns : goal.returns
returns g c = on_ok_weaker c.enter_sink.result (λ after. pin_lowered c.args.ground.now c.requires.ground c.args.self.now c.requires.wave c.args.tap.sink c.args.tap.pin c.requires.tap c.set.new.self c.enter_sink.new.self (g.K.Key.value c.args.cost) c.args.wire (g.K.Key.value c.args.price) c.requires.price c.in_ok-set.ensures.set c.in_ok-set.ensures.best c.requires.enters (narrow g _ c.requires.fits) after) c.enter_sink.ensures
