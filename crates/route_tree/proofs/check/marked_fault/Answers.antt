use Rattle.std.proofs.Common.{subst, ◌∙◌}
use Rattle.route_tree.specs.kept.Marked.{IsMarked}
use Rattle.route_tree.proofs.RowTests.{missing, nodes_are}
use Rattle.route_tree.proofs.check.marked_fault.Goals as goal

pub sink_fault-requires-clause-reported : goal.sink_fault-requires-clause-reported
sink_fault-requires-clause-reported c =
    let rows = c.args.rows.now in
    let flags = c.has_node_twice.new.stamps in
    let nodes = nodes_are rows c.args.source c.requires.tree c.requires.begins in
    c.is_one_unmarked-misses.ensures
    ∙ missing rows c.args.source c.args.sinks.now flags (subst (IsMarked flags) nodes (c.has_node_twice.ensures.marked c.if-has_node_twice.false)) c.requires.apart
