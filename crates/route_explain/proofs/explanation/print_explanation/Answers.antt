use Rattle.std.proofs.Common.{rules, sym}
use Rattle.run_inputs.proofs.Ending.{broken_text, printed}
use Rattle.route_explain.proofs.Filled.{explanation_filled}
use Rattle.route_explain.proofs.explanation.print_explanation.Goals as goal

pub returns-in-Ok : goal.returns-in-Ok
returns-in-Ok g c =
    let file = c.args.file.now in
    printed (tt {0}) c.new-printer.ensures c.put_explanation.ensures c.in-Ok.ensures.prints (search rules) (sym c.in-Ok.ensures.broken) c.in-Ok.ensures.empty
    (explanation_filled file.path.now file.netlist.now file.problem.now file.lines.now file.routing.now c.args.found.now.faults.items)

pub returns : goal.returns
returns g c =
    broken_text (tt {0}) c.new-printer.ensures c.put_explanation.ensures c.in-Err.ensures.prints (search rules) (sym c.in-Err.ensures.broken)
