use Rattle.std.proofs.Common.{◌≡◌, ap, ◌∙◌}
use Rattle.text_output.proofs.Printing.{prints_then}
use Rattle.report_run.specs.Map.{blocks_line, right_of}
use Rattle.report_run.proofs.map.put_blocks_line.Goals as goal

pub returns : goal.returns
unfolding blocks_line
returns g c =
    let blocks = rw c.nx-columns.ensures.entry at c.put_blocks.ensures in
    let right : c.right_of-right.result ≡ right_of c.args.device.now c.args.device.now.nx = c.right_of-right.ensures ∙ ap (right_of c.args.device.now) c.nx-columns.ensures.entry in
    let cell = rw right at c.put_cell.ensures in
    prints_then c.put_row_number.ensures (prints_then c.push.ensures (prints_then blocks (prints_then cell (prints_then c.put_row_number-2.ensures c.push-2.ensures))))
