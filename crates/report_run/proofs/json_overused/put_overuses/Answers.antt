use Rattle.std.proofs.lemmas.List.{nil_from_length}
use Rattle.report_run.specs.JsonReport.{overuses_json}
use Rattle.report_run.proofs.json_overused.put_overuses.Goals as goal

pub returns-in-Some : goal.returns-in-Some
unfolding overuses_json
returns-in-Some g c = rw c.in-Some.ensures.cases.0 c.put_filled_overuses.ensures

pub returns-in-None : goal.returns-in-None
unfolding overuses_json
returns-in-None g c = rw (nil_from_length c.args.nodes.now c.in-None.ensures.cases) c.push.ensures
