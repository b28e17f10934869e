use Rattle.std.proofs.Common.{◌∙◌, refl, sym, inl, arith}
use Rattle.std.proofs.lemmas.List.{length-set}
use Rattle.group_wave.proofs.LabelRows.{count_rows, fits_put, noted_put, parent_put, row_reached, within_put}
use Rattle.group_wave.proofs.labels.Labels.set_parent.Goals as goal

pub index-row-requires : goal.index-row-requires
index-row-requires g c = let count = count_rows g.K.Key.value g.K.Key.greatest c.self.inside.rows.items c.self.inside.prices.items c.args.self.now c.self.invariant.sized c.self.view_is in omega (arith, count, c.requires.there)

pub index_mut-requires : goal.index_mut-requires
index_mut-requires g c = let count = count_rows g.K.Key.value g.K.Key.greatest c.self.inside.rows.items c.self.inside.prices.items c.args.self.now c.self.invariant.sized c.self.view_is in omega (arith, count, c.requires.there)

pub invariant_of-self : goal.invariant_of-self
invariant_of-self g c =
    let rows = c.self.inside.rows.items in
    let prices = c.self.inside.prices.items in
    let size = count_rows g.K.Key.value g.K.Key.greatest c.self.inside.rows.items c.self.inside.prices.items c.args.self.now c.self.invariant.sized c.self.view_is in
    let below = row_reached g.K.Key.value g.K.Key.greatest rows prices c.args.self.now c.args.node c.args.parent c.index-row.result.now c.index-row.ensures c.requires.there c.self.invariant.sized c.self.view_is c.requires.reached in
    record {
      fits = fits_put g.K.Key.value g.K.Key.greatest rows c.args.node _ below c.self.invariant.fits;
      sized = c.self.invariant.sized ∙ sym (length-set rows c.args.node _);
      within = within_put g.K.Key.value g.K.Key.greatest rows c.self.inside.reached.items c.self.inside.reached.items c.args.node c.index-row.result.now _ (omega (arith, size, c.requires.there)) c.self.invariant.within (inl (below, refl));
      noted = noted_put g.K.Key.value g.K.Key.greatest rows c.self.inside.reached.items c.self.inside.reached.items c.args.node c.index-row.result.now _ c.index-row.ensures c.self.invariant.noted (inl (below, refl));
    }

pub returns : goal.returns
returns g c = parent_put g.K.Key.value g.K.Key.greatest c.self.inside.rows.items c.self.inside.prices.items c.args.self.now c.args.node c.args.parent c.index-row.result.now c.index-row.ensures c.requires.there c.self.invariant.sized c.self.view_is c.requires.reached
