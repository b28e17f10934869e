use Rattle.std.proofs.lemmas.List.{nil_from_length}
use Rattle.report_run.specs.JsonReport.{occupancies_json}
use Rattle.report_run.proofs.json_map.put_occupancies.Goals as goal

pub returns-in-Some : goal.returns-in-Some
unfolding occupancies_json
returns-in-Some g c = rw c.in-Some.ensures.cases.0 c.put_filled_occupancies.ensures

pub returns-in-None : goal.returns-in-None
unfolding occupancies_json
returns-in-None g c = rw (nil_from_length c.args.channels.now c.in-None.ensures.cases) c.push.ensures
