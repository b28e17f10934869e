use Rattle.text_output.proofs.Printing.{prints_then}
use Rattle.bound_run.specs.CutTexts.{row_line}
use Rattle.bound_run.proofs.region.put_row_line.Goals as goal

pub returns : goal.returns
unfolding row_line
returns g c = prints_then c.push.ensures (prints_then c.put_number.ensures (prints_then c.put_runs.ensures c.push-2.ensures))
