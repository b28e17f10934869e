use Rattle.std.proofs.Common.{arith}
use Rattle.group_wave.proofs.LabelRows.{count_prices, count_rows, fits_at, priced_at}
use Rattle.group_wave.proofs.labels.Labels.row.Goals as goal

pub index-row-requires : goal.index-row-requires
index-row-requires g c = let count = count_rows g.K.Key.value g.K.Key.greatest c.self.inside.rows.items c.self.inside.prices.items c.args.self.now c.self.invariant.sized c.self.view_is in omega (arith, count, c.requires)

pub index-requires : goal.index-requires
index-requires g c = let count = count_prices g.K.Key.value g.K.Key.greatest c.self.inside.rows.items c.self.inside.prices.items c.args.self.now c.self.invariant.sized c.self.view_is in omega (arith, count, c.requires)

pub returns-clause-label : goal.returns-clause-label
returns-clause-label g c = priced_at g.K.Key.value g.K.Key.greatest c.self.inside.rows.items c.self.inside.prices.items c.args.self.now c.args.node c.index-row.result.now c.index.result.now c.index-row.ensures c.index.ensures c.requires c.self.invariant.sized c.self.view_is

pub returns-clause-fits : goal.returns-clause-fits
returns-clause-fits g c =
    let count = count_rows g.K.Key.value g.K.Key.greatest c.self.inside.rows.items c.self.inside.prices.items c.args.self.now c.self.invariant.sized c.self.view_is in
    fits_at g.K.Key.value g.K.Key.greatest c.self.inside.rows.items c.args.node c.index-row.result.now c.index-row.ensures (omega (arith, count, c.requires)) c.self.invariant.fits
