use Rattle.std.proofs.Common.{◌≡◌, ◌+◌, ◌≤◌, ◌∙◌, ap, refl, arith}
use Rattle.std.specs.Prelude.{min}
use Rattle.std.proofs.lemmas.Result.{on_ok_weaker}
use Rattle.wavefront.specs.Space.{entry_cost}
use Rattle.group_wave.specs.kept.WaveState.{FAR}
use Rattle.group_wave.specs.kept.Wave.{label_at}
use Rattle.wave_ground.proofs.PinsInside.{sink_inside}
use Rattle.group_wave.proofs.Entered.{entered_kept, sink_lowered}
use Rattle.group_wave.proofs.Kept.{row_below}
use Rattle.group_wave.proofs.wave.Wave.enter_sink.Goals as goal
use Rattle.group_wave.proofs.wave.Wave.enter_sink.Goals.{After-lower_sink}
use Rattle.group_wave.proofs.wave.Wave.enter_sink.Given.{Over}

sum : (g : Over) → (c : After-lower_sink g) → g.K.Key.value c.plus-cost.result ≡ min (g.K.Key.value c.args.label + entry_cost c.args.ground.now.space c.args.sink) g.K.Key.greatest
sum g c = omega (arith, c.plus-cost.ensures, c.cut-price.ensures, c.sink_cost.ensures)

narrow : (g : Over) → g.K.Key.greatest ≤ FAR
narrow g = g.met.K.Key.narrow

pub returns-then-is_below : goal.returns-then-is_below
returns-then-is_below g c =
    let less = c.if-is_below.ensures.0 refl in
    let fits = c.row-row.ensures.fits in
    let below = row_below g.K.Key.value g.K.Key.greatest c.args.self.now c.args.sink c.row-row.result (c.row-row.ensures.label ∙ ap (λ w. label_at w c.args.sink) c.self.view_is) (narrow g) (g.K.Key.value c.plus-cost.result) less fits in
    on_ok_weaker c.lower_sink.result (λ low. sink_lowered c.args.ground.now c.requires.ground c.args.self.now c.requires.wave c.args.sink c.requires.sink c.lower_sink.new.self (g.K.Key.value c.args.label) (g.K.Key.value c.plus-cost.result) c.args.pin (g.K.Key.value c.cut-price.result) low c.requires.from (sink_inside c.args.ground.now c.requires.ground c.args.sink c.args.pin c.requires.pin c.requires.sink.0) below
    (omega (arith, less, fits, narrow g)) (omega (arith, sum g c, less, fits)) (omega (arith, less, fits, c.plus-cost.ensures, c.cut-price.ensures, c.sink_cost.ensures))) c.lower_sink.ensures

pub returns : goal.returns
returns g c = let total : g.K.Key.value c.plus-cost.result ≡ min (g.K.Key.value c.args.label + entry_cost c.args.ground.now.space c.args.sink) g.K.Key.greatest = omega (arith, c.plus-cost.ensures, c.cut-price.ensures, c.sink_cost.ensures) in entered_kept c.args.ground.now c.requires.ground c.args.self.now c.requires.wave (g.K.Key.value c.args.label) c.args.sink c.args.pin c.requires.from c.keep_least.new.self (g.K.Key.value c.plus-cost.result) g.K.Key.greatest (narrow g) total c.keep_least.ensures

pub sink_cost-requires-clause-is : goal.sink_cost-requires-clause-is
sink_cost-requires-clause-is g c = c.requires.ground.space.are_sinks c.args.sink c.requires.sink.0
