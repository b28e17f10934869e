use Rattle.std.proofs.lemmas.Result.{err_from_is_err_and}
use Rattle.run_schedule.proofs.Heading.{no_titles}
use Rattle.run_schedule.proofs.schedule.read_body.Goals as goal

pub returns-in_err-ok_or : goal.returns-in_err-ok_or
returns-in_err-ok_or c =
    let fault = err_from_is_err_and c.from_residual.result c.from_residual.ensures.1 in
    let missing = rw c.in_err-ok_or.ensures.ok_part at c.take.ensures in
    rw fault.1 (no_titles missing)
