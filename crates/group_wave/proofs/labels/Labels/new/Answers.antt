use Rattle.group_wave.proofs.LabelRows.{blank_rows}
use Rattle.group_wave.proofs.labels.Labels.new.Goals as goal

pub returns : goal.returns
returns g c = blank_rows g.K.Key.value g.K.Key.greatest c.in_ok-blank_rows.field-0.items c.in_ok-blank_prices.field-0.items c.args.nodes c.in_ok-blank_rows.ensures.blank c.in_ok-blank_rows.ensures.count c.in_ok-blank_prices.ensures
