use Rattle.rr_graph.specs.node.Kind.TheVariants.{Chany}
use Rattle.width_bound.specs.Cuts.{is_border}
use Rattle.width_bound.proofs.BorderCount.{place_more}
use Rattle.width_bound.proofs.border.border_of_column.Goals as goal

pub loop-row-preserved : goal.loop-row-preserved
loop-row-preserved c =
    place_more (is_border c.args.sides.now) (λ x. (Chany, c.args.x, x)) c.loop-row.row c.loop-row.count c.one_if-count.result c.is_border.result c.loop-row.invariant
    c.is_border.ensures c.one_if-count.ensures
