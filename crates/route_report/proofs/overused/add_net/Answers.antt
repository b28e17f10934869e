use Rattle.std.proofs.Common.{◌≤◌, length, map, take, ap, ◌∙◌}
use Rattle.std.proofs.lemmas.List.{take_all}
use Rattle.route_tree.specs.Legality.{is_among}
use Rattle.route_report.specs.kept.Overused.{with_net}
use Rattle.route_report.proofs.Overusing.{none_yet, same_nodes, added_next}
use Rattle.route_report.proofs.overused.add_net.Goals as goal

pub loop-node-init : goal.loop-node-init
loop-node-init c = none_yet c.args.net c.args.entries.now

pub add_at-requires-clause-nodes : goal.add_at-requires-clause-nodes
add_at-requires-clause-nodes c =
    ap (map (λ o. o.node)) c.loop-node.invariant
    ∙ same_nodes (is_among (take c.loop-node.node-index c.args.covered.now)) c.args.net c.args.entries.now ∙ c.requires.nodes

pub loop-node-preserved : goal.loop-node-preserved
loop-node-preserved c =
    added_next c.args.net c.args.covered.now c.requires.once c.loop-node.node-index c.loop-node-test.true c.args.entries.now c.loop-node.entries c.add_at.new.entries
    c.loop-node.invariant c.in_ok-add_at.ensures

pub returns : goal.returns
returns c =
    let all : length c.args.covered.now ≤ c.loop-node.node-index = c.loop-node-test.false in
    c.loop-node.invariant
    ∙ ap (λ ns. map (with_net (is_among ns) c.args.net) c.args.entries.now) (take_all c.loop-node.node-index c.args.covered.now all)
