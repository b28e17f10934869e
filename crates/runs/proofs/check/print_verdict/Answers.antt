use Rattle.std.proofs.Common.{rules, sym}
use Rattle.run_inputs.proofs.Ending.{printed, broken_text}
use Rattle.runs.proofs.Filled.{verdict_filled}
use Rattle.runs.proofs.check.print_verdict.Goals as goal

pub returns-in-Ok : goal.returns-in-Ok
returns-in-Ok g c =
    printed c.args.verdict c.new-printer.ensures c.put_verdict.ensures c.in-Ok.ensures.prints (search rules) (sym c.in-Ok.ensures.broken) c.in-Ok.ensures.empty
    (verdict_filled c.args.netlist.now c.args.problem.now c.args.verdict)

pub returns : goal.returns
returns g c =
    broken_text c.args.verdict c.new-printer.ensures c.put_verdict.ensures c.in-Err.ensures.prints (search rules) (sym c.in-Err.ensures.broken)
