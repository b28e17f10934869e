use Rattle.std.proofs.Common.{rules, sym}
use Rattle.run_inputs.proofs.Ending.{broken_text, printed}
use Rattle.report_run.proofs.Filled.{report_filled}
use Rattle.report_run.proofs.run.print_report.Goals as goal

pub returns-in-Ok : goal.returns-in-Ok
returns-in-Ok g c =
    let design = c.args.design.now in
    let put = rw c.netlist-netlist.ensures.netlist at c.put.ensures in
    printed (tt {0}) c.new-printer.ensures put c.in-Ok.ensures.prints (search rules) (sym c.in-Ok.ensures.broken) c.in-Ok.ensures.empty
    (report_filled c.args.form design.placed.now.netlist design.problem.now c.args.bound c.args.lines.now c.args.report.now)

pub returns : goal.returns
returns g c =
    let put = rw c.netlist-netlist.ensures.netlist at c.put.ensures in
    broken_text (tt {0}) c.new-printer.ensures put c.in-Err.ensures.prints (search rules) (sym c.in-Err.ensures.broken)
