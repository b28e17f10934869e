use Rattle.std.proofs.Common.{rules, sym}
use Rattle.run_inputs.proofs.Ending.{printed, broken_text}
use Rattle.bound_run.proofs.Filled.{bound_filled}
use Rattle.bound_run.proofs.run.print_bound.Goals as goal

pub returns-in-Ok : goal.returns-in-Ok
returns-in-Ok g c =
    printed (tt {0}) c.new-printer.ensures c.put_bound.ensures c.in-Ok.ensures.prints (search rules) (sym c.in-Ok.ensures.broken) c.in-Ok.ensures.empty
    (bound_filled c.args.figures)

pub returns : goal.returns
returns g c =
    broken_text (tt {0}) c.new-printer.ensures c.put_bound.ensures c.in-Err.ensures.prints (search rules) (sym c.in-Err.ensures.broken)
