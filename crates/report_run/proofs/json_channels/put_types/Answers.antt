use Rattle.std.proofs.lemmas.List.{nil_from_length}
use Rattle.report_run.specs.JsonReport.{types_json}
use Rattle.report_run.proofs.json_channels.put_types.Goals as goal

pub returns-in-Some : goal.returns-in-Some
unfolding types_json
returns-in-Some g c = rw c.in-Some.ensures.cases.0 c.put_filled_types.ensures

pub returns-in-None : goal.returns-in-None
unfolding types_json
returns-in-None g c = rw (nil_from_length c.args.types.now c.in-None.ensures.cases) c.push.ensures
