use Rattle.text_output.proofs.Printing.{prints_none}
use Rattle.route_file.specs.Text.{routed_net_lines}
use Rattle.route_file.proofs.writing.put_list.Goals as goal

pub returns-in-None : goal.returns-in-None
unfolding routed_net_lines
returns-in-None g c =
    let sink = g.W.ByteSink in
    let s = c.args.out.now in
    rw c.in-None.is (prints_none s)
