use Rattle.text_output.proofs.Printing.{prints_then}
use Rattle.run_log.specs.kept.LogTexts.{files_text}
use Rattle.run_log.proofs.log_text.put_files.Goals as goal

pub returns : goal.returns
unfolding files_text
returns g c =
    prints_then c.put_entry.ensures (prints_then c.put_entry-2.ensures (prints_then c.put_entry-3.ensures (prints_then c.put_entry-4.ensures (prints_then c.put_given.ensures c.put_given-2.ensures))))
