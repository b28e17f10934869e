use Rattle.text_output.proofs.Printing.{prints_then}
use Rattle.route_explain.specs.Explanation.{fault_line, fault_line_number}
use Rattle.route_explain.proofs.nets.put_fault_line.Goals as goal

pub returns : goal.returns
unfolding fault_line fault_line_number
returns g c =
    let line = rw (c.fault_line_number-line.ensures, c.requires.starts) at c.put_where.ensures in
    prints_then line c.put_fault.ensures
