use Rattle.std.proofs.Common.{subst}
use Rattle.text_output.specs.Printing.{PrintsTo}
use Rattle.text_output.proofs.Printing.{prints_then}
use Rattle.run_inputs.proofs.Lines.{lines_more}
use Rattle.route_explain.specs.Explanation.{net_text_at}
use Rattle.route_explain.proofs.nets.put_nets.Goals as goal

pub loop-net-preserved : goal.loop-net-preserved
loop-net-preserved g c =
    let sink = g.W.ByteSink in
    let s = c.args.out.now in
    let t = c.put_net_at.new.out in
    let file = c.args.file.now in
    let text = net_text_at file.path.now file.netlist.now file.problem.now file.lines.now file.routing.now c.args.found.now.faults.items in
    subst (PrintsTo sink s t) (lines_more text c.loop-net.net) (prints_then c.loop-net.invariant c.put_net_at.ensures)
