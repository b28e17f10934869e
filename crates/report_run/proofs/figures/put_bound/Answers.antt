use Rattle.text_output.proofs.Printing.{prints_then}
use Rattle.report_run.specs.Figures.{bound_line}
use Rattle.report_run.proofs.figures.put_bound.Goals as goal

pub returns : goal.returns
unfolding bound_line
returns g c = prints_then c.push.ensures (prints_then c.put_width_text.ensures c.push-2.ensures)
