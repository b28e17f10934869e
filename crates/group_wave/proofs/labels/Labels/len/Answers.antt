use Rattle.std.proofs.Common.{◌≡◌, length, rules, ◌∙◌}
use Rattle.group_wave.proofs.LabelRows.{count_rows}
use Rattle.group_wave.proofs.labels.Labels.len.Goals as goal

pub returns : goal.returns
returns g c =
    let size : c.len.result ≡ length c.self.inside.rows.items = search rules in
    size ∙ count_rows g.K.Key.value g.K.Key.greatest c.self.inside.rows.items c.self.inside.prices.items c.args.self.now c.self.invariant.sized c.self.view_is
