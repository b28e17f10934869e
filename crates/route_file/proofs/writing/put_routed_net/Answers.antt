use Rattle.std.specs.Prelude.{None}
use Rattle.std.proofs.lemmas.List.{get_or_past}
use Rattle.text_output.proofs.Printing.{prints_none}
use Rattle.route_file.specs.Text.{routed_net_lines}
use Rattle.route_file.proofs.writing.put_routed_net.Goals as goal

pub returns-in-None : goal.returns-in-None
unfolding routed_net_lines
returns-in-None g c =
    let sink = g.W.ByteSink in
    let s = c.args.out.now in
    rw (get_or_past c.args.lists.now c.args.place None c.in-None.ensures.lookup.3) (prints_none s)
