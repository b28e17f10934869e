use Rattle.std.proofs.Common.{◌≡◌, ◌-◌, ap, ◌∙◌}
use Rattle.text_output.proofs.Printing.{prints_then}
use Rattle.report_run.specs.Map.{row_lines}
use Rattle.report_run.proofs.map.put_row.Goals as goal

pub returns : goal.returns
unfolding row_lines
returns g c =
    let row : c.saturating_sub-row.result ≡ c.args.device.now.ny - 1 - c.args.above = c.saturating_sub-row.ensures ∙ ap (λ n. n - c.args.above) (c.saturating_sub.ensures ∙ ap (λ n. n - 1) c.ny.ensures.entry) in
    let blocks = rw row at c.put_blocks_line.ensures in
    let below = rw row at c.put_crossing_line.ensures in
    prints_then blocks below
