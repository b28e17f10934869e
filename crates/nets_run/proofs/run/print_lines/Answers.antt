use Rattle.std.proofs.Common.{rules, sym}
use Rattle.run_inputs.proofs.Ending.{printed, broken_text}
use Rattle.nets_run.proofs.Printed.{some_lines}
use Rattle.nets_run.proofs.run.print_lines.Goals as goal

pub returns-in-Ok : goal.returns-in-Ok
returns-in-Ok g c =
    printed (tt {0}) c.new-printer.ensures c.put_nets.ensures c.in-Ok.ensures.prints (search rules) (sym c.in-Ok.ensures.broken) c.in-Ok.ensures.empty
    (some_lines c.args.netlist.now c.args.problem.now c.requires)

pub returns : goal.returns
returns g c =
    broken_text (tt {0}) c.new-printer.ensures c.put_nets.ensures c.in-Err.ensures.prints (search rules) (sym c.in-Err.ensures.broken)
