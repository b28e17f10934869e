use Rattle.report_run.specs.JsonReport.{name_json}
use Rattle.report_run.proofs.json_parts.put_name.Goals as goal

pub returns : goal.returns
unfolding name_json
returns g c = rw (c.net_name.ensures, c.number_of_net-number.ensures) at c.put_string.ensures
