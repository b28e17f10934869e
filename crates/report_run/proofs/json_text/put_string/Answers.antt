use Rattle.text_output.proofs.Printing.{prints_then}
use Rattle.report_run.specs.Json.{string_text}
use Rattle.report_run.proofs.json_text.put_string.Goals as goal

pub returns : goal.returns
unfolding string_text
returns g c =
    prints_then c.push.ensures (prints_then c.put_bytes.ensures c.push-2.ensures)
