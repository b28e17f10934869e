use Rattle.std.proofs.Common.{rules, sym}
use Rattle.run_inputs.proofs.Ending.{broken_front}
use Rattle.run_inputs.proofs.fault.print_fault.Goals as goal

pub returns-clause-front : goal.returns-clause-front
returns-clause-front g c =
    broken_front (tt {0}) c.new-printer.ensures c.put_fault.ensures c.in-Err.ensures.prints (search rules) (sym c.in-Err.ensures.broken)
