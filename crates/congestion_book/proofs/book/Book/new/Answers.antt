use Rattle.std.proofs.Common.{ap, ◌∙◌}
use Rattle.routing_problem.specs.Nodes.{node_count_of}
use Rattle.congestion_book.proofs.Soundness.{new_kept}
use Rattle.congestion_book.proofs.book.Book.new.Goals as goal

pub invariant_of-result : goal.invariant_of-result
invariant_of-result c =
    new_kept _ c.args.acc c.node_count-nodes.result c.nets.result c.in_ok-routes.ensures.recorded (c.node_count-nodes.ensures.count ∙ ap node_count_of c.device.ensures.device) c.nets.ensures.count c.in_ok-history.ensures c.in_ok-turns.ensures c.in_ok-marks.ensures
