use Rattle.std.proofs.Common.{◌≡◌, ◌+◌, ◌≤◌, ◌∙◌, ap, refl, arith}
use Rattle.std.specs.Prelude.{min}
use Rattle.wavefront.specs.Space.{entry_cost}
use Rattle.group_wave.specs.kept.WaveState.{FAR}
use Rattle.group_wave.specs.kept.Wave.{label_at}
use Rattle.group_wave.proofs.Kept.{row_below}
use Rattle.wave_ground.proofs.PinsInside.{pin_inside}
use Rattle.group_wave.proofs.Entered.{entered_kept, tap_from}
use Rattle.group_wave.proofs.wave.Wave.enter_pin.Goals as goal
use Rattle.group_wave.proofs.wave.Wave.enter_pin.Given.{Over}

narrow : (g : Over) → g.K.Key.greatest ≤ FAR
narrow g = g.met.K.Key.narrow

pub returns : goal.returns
returns g c =
    let total : g.K.Key.value c.plus-cost.result ≡ min (g.K.Key.value c.args.label + entry_cost c.args.ground.now.space c.args.tap.pin) g.K.Key.greatest = omega (arith, c.plus-cost.ensures, c.cut-price.ensures, c.pin_cost.ensures) in
    entered_kept c.args.ground.now c.requires.ground c.args.self.now c.requires.wave (g.K.Key.value c.args.label) c.args.tap.pin c.args.wire
    (tap_from c.args.ground.now c.requires.ground c.args.self.now c.requires.wave c.args.tap.sink c.args.tap.pin c.requires.tap (g.K.Key.value c.args.label) c.args.wire c.requires.edge c.requires.from (omega (arith, c.requires.fits, narrow g)))
    c.keep_least.new.self (g.K.Key.value c.plus-cost.result) g.K.Key.greatest (narrow g) total c.keep_least.ensures

pub lower_pin-requires-clause-enters : goal.lower_pin-requires-clause-enters
lower_pin-requires-clause-enters g c =
    let less = c.if-is_below.ensures.0 refl in
    let fits = c.row-row.ensures.fits in
    let below = row_below g.K.Key.value g.K.Key.greatest c.args.self.now c.args.tap.pin c.row-row.result (c.row-row.ensures.label ∙ ap (λ w. label_at w c.args.tap.pin) c.self.view_is) (narrow g) (g.K.Key.value c.plus-cost.result) less fits in
    record {
      edge = c.requires.edge;
      inside = pin_inside c.args.ground.now c.requires.ground c.args.tap.sink c.args.tap.pin c.requires.tap c.requires.sink.0;
      reached = omega (arith, c.requires.from, c.requires.fits, narrow g);
      paid = omega (arith, c.requires.from, less, fits, c.plus-cost.ensures, c.cut-price.ensures, c.pin_cost.ensures);
      less = below;
    }

pub lower_pin-requires-clause-price : goal.lower_pin-requires-clause-price
lower_pin-requires-clause-price g c =
    let less = c.if-is_below.ensures.0 refl in
    let fits = c.row-row.ensures.fits in
    omega (arith, less, fits, c.plus-cost.ensures, c.cut-price.ensures, c.pin_cost.ensures)
