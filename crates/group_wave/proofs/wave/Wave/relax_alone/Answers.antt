use Rattle.std.proofs.Common.{arith}
use Rattle.group_wave.proofs.Beside.{target_is, target_within}
use Rattle.group_wave.proofs.Entered.{entered_kept}
use Rattle.group_wave.proofs.Kept.{row_priced}
use Rattle.group_wave.proofs.wave.Wave.relax_alone.Goals as goal

pub price_by-price-requires-clause-node_in : goal.price_by-price-requires-clause-node_in
price_by-price-requires-clause-node_in g c = target_within c.args.ground.now c.requires.ground c.args.step.group c.args.to.track c.args.to.wire c.requires.to

pub price_by-price-requires-clause-is : goal.price_by-price-requires-clause-is
price_by-price-requires-clause-is g c = target_is c.args.ground.now c.requires.ground c.args.step.group c.args.to.track c.args.to.wire c.requires.to

pub price_by-price-requires-clause-kept : goal.price_by-price-requires-clause-kept
price_by-price-requires-clause-kept g c =
    row_priced g.K.Key.value g.K.Key.greatest c.args.self.now c.args.to.wire c.args.row c.requires.row c.args.ground.now c.requires.wave g.met.K.Key.narrow c.requires.some

pub returns : goal.returns
returns g c =
    let value = g.K.Key.value in
    entered_kept c.args.ground.now c.requires.ground c.args.self.now c.requires.wave (value c.args.step.label) c.args.to.wire c.args.to.parent c.requires.from
    c.keep_least.new.self (value c.plus-cost.result) g.K.Key.greatest g.met.K.Key.narrow
    (let price = c.price_by-price.ensures in let sum = c.plus-cost.ensures in omega (arith, price, sum)) c.keep_least.ensures
