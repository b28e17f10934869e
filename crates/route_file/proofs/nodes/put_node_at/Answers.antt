use Rattle.std.proofs.Common.{subst}
use Rattle.text_output.specs.Printing.{PrintsTo}
use Rattle.text_output.proofs.Printing.{prints_none}
use Rattle.route_file.proofs.NodeTexts.{line_of_node, no_line}
use Rattle.route_file.proofs.nodes.put_node_at.Goals as goal

pub returns-in-None : goal.returns-in-None
returns-in-None g c =
    let sink = g.W.ByteSink in
    let s = c.args.out.now in
    subst (PrintsTo sink s s) (no_line c.args.device.now c.args.id (rw c.in-None.is at c.described_node.ensures.node)) (prints_none s)

pub returns : goal.returns
returns g c =
    let sink = g.W.ByteSink in
    let s = c.args.out.now in
    let t = c.put_node.new.out in
    let text = line_of_node c.args.device.now c.args.id c.in-Some.described.0 c.in-Some.described.1 c.in-Some.described.2 c.in-Some.ensures.node c.in-Some.ensures.span c.in-Some.ensures.label in
    subst (PrintsTo sink s t) text c.put_node.ensures
