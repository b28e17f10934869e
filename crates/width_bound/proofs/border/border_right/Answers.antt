use Rattle.std.proofs.Common.{map}
use Rattle.std.specs.List.{range_with_len}
use Rattle.rr_graph.specs.node.Kind.TheVariants.{Chany}
use Rattle.width_bound.specs.Cuts.{is_border}
use Rattle.width_bound.proofs.BorderCount.{row_more}
use Rattle.width_bound.proofs.border.border_right.Goals as goal

pub loop-x-preserved : goal.loop-x-preserved
loop-x-preserved c =
    row_more (is_border c.args.sides.now) (λ x. map (λ y. (Chany, x, y)) (range_with_len 1 c.args.ny)) c.loop-x.x c.loop-x.count c.border_of_column-count.result
    c.loop-x.invariant c.border_of_column-count.ensures.count c.border_of_column-count.ensures.few
