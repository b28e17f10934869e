use Rattle.std.proofs.Common.{◌∙◌, length, ap, sym, arith}
use Rattle.std.proofs.lemmas.List.{length-set}
use Rattle.group_wave.proofs.LabelRows.{count_prices, count_rows, fits_put, label_put, noted_put, within_put}
use Rattle.group_wave.proofs.labels.Labels.set.Goals as goal

pub index-row-requires : goal.index-row-requires
index-row-requires g c = let count = count_rows g.K.Key.value g.K.Key.greatest c.self.inside.rows.items c.self.inside.prices.items c.args.self.now c.self.invariant.sized c.self.view_is in omega (arith, count, c.requires.there)

pub index_mut-requires : goal.index_mut-requires
index_mut-requires g c = let count = count_rows g.K.Key.value g.K.Key.greatest c.self.inside.rows.items c.self.inside.prices.items c.args.self.now c.self.invariant.sized c.self.view_is in omega (arith, count, c.requires.there)

pub index_mut-requires-2 : goal.index_mut-requires-2
index_mut-requires-2 g c = let count = count_prices g.K.Key.value g.K.Key.greatest c.self.inside.rows.items c.self.inside.prices.items c.args.self.now c.self.invariant.sized c.self.view_is in omega (arith, count, c.requires.there)

pub invariant_of-self-2 : goal.invariant_of-self-2
invariant_of-self-2 g c =
    let size = count_rows g.K.Key.value g.K.Key.greatest c.self.inside.rows.items c.self.inside.prices.items c.args.self.now c.self.invariant.sized c.self.view_is in
    record {
      fits = fits_put g.K.Key.value g.K.Key.greatest c.self.inside.rows.items c.args.node _ c.requires.fits c.self.invariant.fits;
      sized = length-set c.self.inside.prices.items c.args.node c.args.price ∙ c.self.invariant.sized ∙ sym (length-set c.self.inside.rows.items c.args.node _);
      within = within_put g.K.Key.value g.K.Key.greatest c.self.inside.rows.items c.self.inside.reached.items c.note.new.reached.items c.args.node c.index-row.result.now _ (omega (arith, size, c.requires.there)) c.self.invariant.within c.in_ok-note.ensures.ok;
      noted = noted_put g.K.Key.value g.K.Key.greatest c.self.inside.rows.items c.self.inside.reached.items c.note.new.reached.items c.args.node c.index-row.result.now _ c.index-row.ensures c.self.invariant.noted c.in_ok-note.ensures.ok;
    }

pub returns-clause-set : goal.returns-clause-set
returns-clause-set g c = label_put g.K.Key.value g.K.Key.greatest c.self.inside.rows.items c.self.inside.prices.items c.args.self.now c.args.node _ c.args.price c.requires.fits c.self.view_is

pub returns-clause-rows : goal.returns-clause-rows
returns-clause-rows g c = ap length (label_put g.K.Key.value g.K.Key.greatest c.self.inside.rows.items c.self.inside.prices.items c.args.self.now c.args.node _ c.args.price c.requires.fits c.self.view_is) ∙ length-set c.args.self.now c.args.node _
