use Rattle.std.proofs.Common.{rules, sym}
use Rattle.run_inputs.proofs.Ending.{printed, broken_text}
use Rattle.run_log.proofs.Logging.{head_filled}
use Rattle.run_log.proofs.log_text.write_head.Goals as goal

pub returns-in-Ok : goal.returns-in-Ok
returns-in-Ok g c =
    printed tt c.new-printer.ensures c.put_head.ensures c.in-Ok.ensures.prints (search rules) (sym c.in-Ok.ensures.broken) c.in-Ok.ensures.empty
    (head_filled c.args.program.now c.args.files.now c.args.problem.now c.args.workers c.args.settings.now)

pub returns : goal.returns
returns g c =
    broken_text tt c.new-printer.ensures c.put_head.ensures c.in-Err.ensures.prints (search rules) (sym c.in-Err.ensures.broken)
