use Rattle.text_output.proofs.Printing.{prints_then}
use Rattle.report_run.specs.JsonReport.{lines_json}
use Rattle.report_run.proofs.json_overused.put_lines.Goals as goal

pub returns : goal.returns
unfolding lines_json
returns g c =
    prints_then c.push.ensures (prints_then c.put_named_lines.ensures c.push-2.ensures)
