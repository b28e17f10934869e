use Rattle.std.proofs.lemmas.List.{nil_from_length}
use Rattle.report_run.specs.JsonReport.{numbers_json}
use Rattle.report_run.proofs.json_map.put_numbers.Goals as goal

pub returns-in-Some : goal.returns-in-Some
unfolding numbers_json
returns-in-Some g c = rw c.in-Some.ensures.cases.0 c.put_filled_numbers.ensures

pub returns-in-None : goal.returns-in-None
unfolding numbers_json
returns-in-None g c = rw (nil_from_length c.args.numbers.now c.in-None.ensures.cases) c.push.ensures
