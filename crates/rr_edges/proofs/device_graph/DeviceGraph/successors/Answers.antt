use Rattle.std.proofs.Common.{◌++◌, sym, subst, ap, ◌∙◌}
use Rattle.std.specs.List.Sorted.{IsStrictlyIncreasing}
use Rattle.rr_edges.specs.kept.NodeSuccessors.{node_successors}
use Rattle.rr_edges.proofs.Graph.{successors_ascend}
use Rattle.rr_edges.proofs.NodeSuccessors.{node_listed}
use Rattle.rr_edges.proofs.device_graph.DeviceGraph.successors.Goals as goal

pub returns-in_ok-fill-in-Some-clause-ascending : goal.returns-in_ok-fill-in-Some-clause-ascending
returns-in_ok-fill-in-Some-clause-ascending c =
    let f = c.args.self.now in
    let a = c.in-Some.node in
    let listed = node_listed f c.in-Some.ensures.limits c.args.id a (sym c.in-Some.ensures.node) in
    let items = c.in_ok-fill-in-Some.ensures.filled ∙ ap (λ ns. ns ++ node_successors f a) c.clear.ensures.items ∙ sym listed in
    subst IsStrictlyIncreasing (sym items) (successors_ascend f c.args.id)
