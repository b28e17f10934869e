use Rattle.text_output.proofs.Printing.{prints_then}
use Rattle.report_run.specs.JsonReport.{totals_json}
use Rattle.report_run.proofs.json_figures.put_totals.Goals as goal

pub returns : goal.returns
unfolding totals_json
returns g c =
    prints_then c.push.ensures (prints_then c.put_number.ensures (prints_then c.push-2.ensures (prints_then c.put_mean.ensures (prints_then c.push-3.ensures (prints_then c.put_number-2.ensures (prints_then c.push-4.ensures (prints_then c.put_name_or_null.ensures c.push-5.ensures)))))))
