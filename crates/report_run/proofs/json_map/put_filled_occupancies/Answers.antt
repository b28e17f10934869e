use Rattle.text_output.proofs.Printing.{prints_then}
use Rattle.report_run.proofs.json_map.put_filled_occupancies.Goals as goal

pub returns : goal.returns
returns g c =
    prints_then c.push.ensures (prints_then c.put_occupied.ensures (prints_then c.put_more_occupied.ensures c.push-2.ensures))
