use Rattle.std.proofs.Common.{map, ap, sym, subst, ◌∙◌}
use Rattle.std.specs.List.Sorted.{IsStrictlyIncreasing}
use Rattle.route_tree.specs.Legality.{is_among}
use Rattle.route_report.specs.kept.Overused.{with_net}
use Rattle.route_report.proofs.Overusing.{covered_ascends, entry_nodes, entries_next}
use Rattle.route_report.proofs.overused.add_nets.Goals as goal

pub add_net-requires-clause-nodes : goal.add_net-requires-clause-nodes
add_net-requires-clause-nodes c =
    ap (map (λ o. o.node)) c.loop-net.invariant ∙ entry_nodes c.args.problem.now c.args.lists.now c.loop-net.net c.args.nodes.now

pub add_net-requires-clause-once : goal.add_net-requires-clause-once
add_net-requires-clause-once c =
    subst IsStrictlyIncreasing (sym (c.deref.ensures.value ∙ c.in_ok-covered.ensures)) (covered_ascends c.args.problem.now c.args.lists.now c.loop-net.net)

pub loop-net-preserved : goal.loop-net-preserved
loop-net-preserved c =
    entries_next c.args.problem.now c.args.lists.now c.loop-net.net c.args.nodes.now c.loop-net.entries c.add_net.new.entries c.requires.there c.loop-net.invariant
    (c.in_ok-add_net.ensures
    ∙ ap (λ covered. map (with_net (is_among covered) c.loop-net.net) c.loop-net.entries) (c.deref.ensures.value ∙ c.in_ok-covered.ensures))
