use Rattle.text_output.proofs.Printing.{prints_then}
use Rattle.report_run.specs.Map.{axis_lines}
use Rattle.report_run.proofs.map.put_axis_lines.Goals as goal

pub returns : goal.returns
unfolding axis_lines
returns g c = prints_then c.put_axis_line.ensures (prints_then c.put_axis_line-2.ensures c.put_axis_line-3.ensures)
