use Rattle.text_output.proofs.Printing.{prints_then}
use Rattle.report_run.specs.JsonReport.{map_json}
use Rattle.report_run.proofs.json_map.put_map.Goals as goal

pub returns : goal.returns
unfolding map_json
returns g c =
    prints_then c.push.ensures (prints_then c.put_occupancies.ensures (prints_then c.push-2.ensures (prints_then c.put_occupancies-2.ensures c.push-3.ensures)))
