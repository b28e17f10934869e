use Rattle.std.proofs.Common.{◌∙◌}
use Rattle.group_wave.proofs.LabelRows.{blank_rows, count_rows}
use Rattle.group_wave.proofs.labels.Labels.clear.Goals as goal

pub returns : goal.returns
returns g c =
    let count = count_rows g.K.Key.value g.K.Key.greatest c.self.inside.rows.items c.self.inside.prices.items c.args.self.now c.self.invariant.sized c.self.view_is in
    blank_rows g.K.Key.value g.K.Key.greatest c.take_off.new.rows.items c.self.inside.prices.items _ c.take_off.ensures.blank (c.take_off.ensures.count ∙ count) (c.self.invariant.sized ∙ count)
