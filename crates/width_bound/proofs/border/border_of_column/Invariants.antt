use Rattle.std.proofs.Common.{◌≡◌, ◌≤◌, map}
use Rattle.std.specs.Prelude.{count_by}
use Rattle.std.specs.List.{range_with_len}
use Rattle.rr_graph.specs.node.Kind.TheVariants.{Chany}
use Rattle.width_bound.specs.Cuts.{is_border}
use Rattle.width_bound.proofs.border.border_of_column.Given as goal

abbrev pub invariant-loop-row : goal.invariant-loop-row
invariant-loop-row l = (l.count ≡ count_by (is_border l.sides) (map (λ x. (Chany, l.x, x)) (range_with_len 1 l.row))) × (l.count ≤ l.row)
