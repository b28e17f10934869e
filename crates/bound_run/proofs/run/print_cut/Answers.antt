use Rattle.std.proofs.Common.{rules, sym}
use Rattle.run_inputs.proofs.Ending.{printed, broken_text}
use Rattle.bound_run.proofs.Filled.{cut_filled}
use Rattle.bound_run.proofs.run.print_cut.Goals as goal

pub returns-in-Ok : goal.returns-in-Ok
returns-in-Ok g c =
    printed (tt {0}) c.new-printer.ensures c.put_cut.ensures c.in-Ok.ensures.prints (search rules) (sym c.in-Ok.ensures.broken) c.in-Ok.ensures.empty
    (cut_filled c.args.placed.now c.args.found.now)

pub returns : goal.returns
returns g c =
    broken_text (tt {0}) c.new-printer.ensures c.put_cut.ensures c.in-Err.ensures.prints (search rules) (sym c.in-Err.ensures.broken)
