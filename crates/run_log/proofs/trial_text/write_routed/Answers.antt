use Rattle.std.proofs.Common.{rules, sym}
use Rattle.run_inputs.proofs.Ending.{printed, broken_text}
use Rattle.run_log.proofs.Logging.{routed_filled}
use Rattle.run_log.proofs.trial_text.write_routed.Goals as goal

pub returns-in-Ok : goal.returns-in-Ok
returns-in-Ok g c =
    printed tt c.new-printer.ensures c.put_routed.ensures c.in-Ok.ensures.prints (search rules) (sym c.in-Ok.ensures.broken) c.in-Ok.ensures.empty
    (routed_filled c.args.width c.args.iterations)

pub returns : goal.returns
returns g c =
    broken_text tt c.new-printer.ensures c.put_routed.ensures c.in-Err.ensures.prints (search rules) (sym c.in-Err.ensures.broken)
