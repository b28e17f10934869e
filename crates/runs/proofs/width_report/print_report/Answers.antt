use Rattle.std.proofs.Common.{rules, sym}
use Rattle.run_inputs.proofs.Ending.{printed, broken_text}
use Rattle.runs.proofs.Widths.{report_filled}
use Rattle.runs.proofs.width_report.print_report.Goals as goal

pub returns-in-Ok : goal.returns-in-Ok
returns-in-Ok g c =
    printed (tt {0}) c.new-printer.ensures c.put_report.ensures c.in-Ok.ensures.prints (search rules) (sym c.in-Ok.ensures.broken) c.in-Ok.ensures.empty
    (report_filled c.args.report.now)

pub returns : goal.returns
returns g c =
    broken_text (tt {0}) c.new-printer.ensures c.put_report.ensures c.in-Err.ensures.prints (search rules) (sym c.in-Err.ensures.broken)
