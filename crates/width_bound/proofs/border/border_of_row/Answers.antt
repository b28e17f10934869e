use Rattle.rr_graph.specs.node.Kind.TheVariants.{Chanx}
use Rattle.width_bound.specs.Cuts.{is_border}
use Rattle.width_bound.proofs.BorderCount.{place_more}
use Rattle.width_bound.proofs.border.border_of_row.Goals as goal

pub loop-column-preserved : goal.loop-column-preserved
loop-column-preserved c =
    place_more (is_border c.args.sides.now) (λ x. (Chanx, x, c.args.y)) c.loop-column.column c.loop-column.count c.one_if-count.result c.is_border.result c.loop-column.invariant
    c.is_border.ensures c.one_if-count.ensures
