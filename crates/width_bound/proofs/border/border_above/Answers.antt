use Rattle.std.proofs.Common.{map}
use Rattle.std.specs.List.{range_with_len}
use Rattle.rr_graph.specs.node.Kind.TheVariants.{Chanx}
use Rattle.width_bound.specs.Cuts.{is_border}
use Rattle.width_bound.proofs.BorderCount.{row_more}
use Rattle.width_bound.proofs.border.border_above.Goals as goal

pub loop-y-preserved : goal.loop-y-preserved
loop-y-preserved c =
    row_more (is_border c.args.sides.now) (λ y. map (λ x. (Chanx, x, y)) (range_with_len 1 c.args.nx)) c.loop-y.y c.loop-y.count c.border_of_row-count.result
    c.loop-y.invariant c.border_of_row-count.ensures.count c.border_of_row-count.ensures.few
