use Rattle.text_output.proofs.Printing.{prints_then}
use Rattle.bound_run.specs.Bounds.{bound_lines}
use Rattle.bound_run.proofs.lines.put_bound.Goals as goal

pub returns : goal.returns
unfolding bound_lines
returns g c = prints_then c.put_width_line.ensures c.put_counts.ensures
