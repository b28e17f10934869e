use Rattle.std.proofs.Common.{◌≡◌, true, false, sym, subst, ◌∙◌}
use Rattle.text_output.specs.Printing.{PrintsTo}
use Rattle.text_output.proofs.Printing.{prints_then}
use Rattle.route_file.specs.PrintedNodes.{goes_on}
use Rattle.route_file.proofs.NodeTexts.{one_node, two_nodes}
use Rattle.route_file.proofs.nodes.put_pair.Goals as goal

pub returns-then-goes_on : goal.returns-then-goes_on
returns-then-goes_on g c =
    let sink = g.W.ByteSink in
    let s = c.args.out.now in
    let t = c.put_node_at.new.out in
    let on : goes_on c.args.device.now c.args.before c.args.pair ≡ true = sym c.goes_on.ensures ∙ c.if-goes_on.true in
    rw on (subst (PrintsTo sink s t) (one_node c.args.device.now c.args.pair.1) c.put_node_at.ensures)

pub returns : goal.returns
returns g c =
    let sink = g.W.ByteSink in
    let s = c.args.out.now in
    let t = c.put_node_at-3.new.out in
    let on : goes_on c.args.device.now c.args.before c.args.pair ≡ false = sym c.goes_on.ensures ∙ c.if-goes_on.false in
    rw on (subst (PrintsTo sink s t) (two_nodes c.args.device.now c.args.pair.0 c.args.pair.1) (prints_then c.put_node_at-2.ensures c.put_node_at-3.ensures))
