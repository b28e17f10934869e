use Rattle.std.proofs.Common.{rules, sym}
use Rattle.run_inputs.proofs.Ending.{printed, broken_text}
use Rattle.runs.proofs.Writing.{outcome_filled}
use Rattle.runs.proofs.route.print_outcome.Goals as goal

pub returns-in-Ok : goal.returns-in-Ok
returns-in-Ok g c =
    printed c.args.outcome c.new-printer.ensures c.put_outcome.ensures c.in-Ok.ensures.prints (search rules) (sym c.in-Ok.ensures.broken) c.in-Ok.ensures.empty
    (outcome_filled c.args.outcome)

pub returns-in-Err : goal.returns-in-Err
returns-in-Err g c =
    broken_text c.args.outcome c.new-printer.ensures c.put_outcome.ensures c.in-Err.ensures.prints (search rules) (sym c.in-Err.ensures.broken)
