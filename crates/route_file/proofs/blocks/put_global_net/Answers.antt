use Rattle.text_output.proofs.Printing.{prints_then}
use Rattle.route_file.specs.Text.{global_net_lines}
use Rattle.route_file.proofs.blocks.put_global_net.Goals as goal

pub returns : goal.returns
unfolding global_net_lines
returns g c =
    let heading = rw c.name.ensures at c.put_global_heading.ensures in
    let driver = rw c.driver.ensures at c.put_terminal.ensures in
    let sinks = rw c.sinks.ensures at c.put_terminals.ensures in
    prints_then c.put_blank.ensures (prints_then heading (prints_then c.put_blank-2.ensures (prints_then driver sinks)))
