use Rattle.text_output.proofs.Printing.{prints_then}
use Rattle.report_run.specs.JsonReport.{node_json}
use Rattle.report_run.proofs.json_overused.put_node.Goals as goal

pub returns : goal.returns
unfolding node_json
returns g c =
    prints_then c.push.ensures (prints_then c.put_node_of.ensures c.push-2.ensures)
