use Rattle.text_output.proofs.Printing.{prints_then}
use Rattle.run_log.specs.kept.LogTexts.{head_text}
use Rattle.run_log.proofs.log_text.put_head.Goals as goal

pub returns : goal.returns
unfolding head_text
returns g c =
    let steady = rw c.is_steady.ensures at c.put_steady.ensures in
    prints_then c.put_entry.ensures (prints_then c.put_files.ensures (prints_then c.put_problem.ensures (prints_then c.put_amount.ensures (prints_then c.put_options.ensures (prints_then steady c.put_titles.ensures)))))
