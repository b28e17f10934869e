use Rattle.text_output.proofs.Printing.{prints_then}
use Rattle.report_run.specs.Map.{map_text}
use Rattle.report_run.proofs.map.put_map.Goals as goal

pub returns : goal.returns
unfolding map_text
returns g c =
    let head = rw c.nx-columns.ensures.entry at c.put_head.ensures in
    let top = rw c.ny-rows.ensures.entry at c.put_crossing_line.ensures in
    let rows = rw c.ny-rows.ensures.entry at c.put_rows.ensures in
    let axis = rw c.nx-columns.ensures.entry at c.put_axis_lines.ensures in
    prints_then head (prints_then top (prints_then rows axis))
