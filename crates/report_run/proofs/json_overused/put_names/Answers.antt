use Rattle.std.proofs.lemmas.List.{nil_from_length}
use Rattle.report_run.specs.JsonReport.{names_json}
use Rattle.report_run.proofs.json_overused.put_names.Goals as goal

pub returns-in-Some : goal.returns-in-Some
unfolding names_json
returns-in-Some g c = rw c.in-Some.ensures.cases.0 c.put_filled_names.ensures

pub returns-in-None : goal.returns-in-None
unfolding names_json
returns-in-None g c = rw (nil_from_length c.args.nets.now c.in-None.ensures.cases) c.push.ensures
