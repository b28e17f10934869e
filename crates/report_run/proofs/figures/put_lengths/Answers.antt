use Rattle.text_output.proofs.Printing.{prints_then}
use Rattle.report_run.specs.Figures.{length_lines}
use Rattle.report_run.proofs.figures.put_lengths.Goals as goal

pub returns : goal.returns
unfolding length_lines
returns g c =
    prints_then c.push.ensures (prints_then c.put_number.ensures (prints_then c.push-2.ensures (prints_then c.put_mean.ensures
    (prints_then c.push-3.ensures (prints_then c.put_number-2.ensures (prints_then c.put_longest.ensures c.push-4.ensures))))))
