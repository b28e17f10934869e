use Rattle.std.proofs.Common.{not, sym, arith}
use Rattle.routing_problem.specs.Edges.{edge_between}
use Rattle.route_tree.specs.Rows.{pairs_of}
use Rattle.route_tree.proofs.RowTests.{none_passes}
use Rattle.route_tree.proofs.passes.lacks_switch.Goals as goal

-- src/passes.rt:35:1
pub returns : goal.returns
returns c =
    let pairs = pairs_of c.args.rows.now in
    let f = c.args.device.now in
    sym (none_passes (λ p. not (edge_between f p.0 p.1)) pairs (0, 0) (λ k l. c.loop-index.invariant.1 k (omega (arith, l, c.loop-index-test.false, c.count_pairs-index-end.ensures.count))))
