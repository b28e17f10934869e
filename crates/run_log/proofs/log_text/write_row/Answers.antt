use Rattle.std.proofs.Common.{rules, sym}
use Rattle.run_inputs.proofs.Ending.{printed, broken_text}
use Rattle.run_log.proofs.Logging.{row_filled}
use Rattle.run_log.proofs.log_text.write_row.Goals as goal

pub returns-in-Ok : goal.returns-in-Ok
returns-in-Ok g c =
    printed tt c.new-printer.ensures c.put_row.ensures c.in-Ok.ensures.prints (search rules) (sym c.in-Ok.ensures.broken) c.in-Ok.ensures.empty
    (row_filled c.args.settings.now c.args.iteration c.args.book.now c.args.milliseconds)

pub returns : goal.returns
returns g c =
    broken_text tt c.new-printer.ensures c.put_row.ensures c.in-Err.ensures.prints (search rules) (sym c.in-Err.ensures.broken)
