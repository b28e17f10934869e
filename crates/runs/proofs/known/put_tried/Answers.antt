use Rattle.text_output.proofs.Printing.{prints_then}
use Rattle.runs.specs.Known.{tried_text}
use Rattle.runs.proofs.known.put_tried.Goals as goal

pub returns : goal.returns
unfolding tried_text
returns g c = prints_then c.put_range.ensures c.put_also.ensures
