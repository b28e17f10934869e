use Rattle.std.proofs.Common.{arith, ap, ◌∙◌, slice_index_or}
use Rattle.wavefront.proofs.WaysLeft.{wire_paid}
use Rattle.group_wave.specs.kept.Wave.{unreached}
use Rattle.group_wave.proofs.Costs.{cost_below, no_less}
use Rattle.group_wave.proofs.Kept.{row_priced}
use Rattle.group_wave.proofs.Relaxed.{relaxed_low, relaxed_kept}
use Rattle.group_wave.proofs.wave.Wave.relax_track.Goals as goal

pub returns-then-is_below-clause-relaxed : goal.returns-then-is_below-clause-relaxed
returns-then-is_below-clause-relaxed g c =
    let value = g.K.Key.value in
    let greatest = g.K.Key.greatest in
    let less = c.is_below.ensures.0 c.if-is_below.true in
    let least = c.requires.least in
    let is = c.row-row.ensures.label ∙ ap (λ w. slice_index_or w.labels c.args.to.wire unreached) c.self.view_is in
    let same = cost_below value greatest c.row-row.result _ is (omega (arith, less, least)) in
    relaxed_low c.args.ground.now c.requires.ground c.args.self.now c.requires.wave (value c.args.step.label) c.args.to.wire c.args.to.parent c.requires.from (value c.args.step.least) (omega (arith, same, less)) (omega (arith, least))

pub price_by-price-requires-clause-kept : goal.price_by-price-requires-clause-kept
price_by-price-requires-clause-kept g c =
    let value = g.K.Key.value in
    let more = no_less c.is_below.result _ _ c.is_below.ensures c.if-is_below.false in
    let least = c.requires.least in
    row_priced value g.K.Key.greatest c.args.self.now c.args.to.wire c.row-row.result (c.row-row.ensures.label ∙ ap (λ w. slice_index_or w.labels c.args.to.wire unreached) c.self.view_is)
    c.args.ground.now c.requires.wave g.met.K.Key.narrow (let some = g.met.K.Key.some in omega (arith, more, least, some))

pub lower-requires-clause-least : goal.lower-requires-clause-least
lower-requires-clause-least g c =
    let least = c.requires.least in
    let paid = wire_paid c.args.ground.now.space c.args.to.wire c.requires.from.is in
    let price = c.price_by-price.ensures in
    let sum = c.plus-cost.ensures in
    omega (arith, least, paid, price, sum)

pub returns-clause-relaxed : goal.returns-clause-relaxed
returns-clause-relaxed g c =
    let value = g.K.Key.value in
    let greatest = g.K.Key.greatest in
    relaxed_kept c.args.ground.now c.requires.ground c.args.self.now c.requires.wave (value c.args.step.label) c.args.to.wire c.args.to.parent c.requires.from
    c.keep_least.new.self (value c.plus-cost.result) greatest (value c.args.step.least) g.met.K.Key.narrow
    (let price = c.price_by-price.ensures in let sum = c.plus-cost.ensures in omega (arith, price, sum)) c.keep_least.ensures
