use Rattle.std.proofs.Common.{◌≡◌, ◌≤◌, map}
use Rattle.std.specs.Prelude.{count_by}
use Rattle.std.specs.List.{range_with_len}
use Rattle.rr_graph.specs.node.Kind.TheVariants.{Chanx}
use Rattle.width_bound.specs.Cuts.{is_border}
use Rattle.width_bound.proofs.border.border_of_row.Given as goal

abbrev pub invariant-loop-column : goal.invariant-loop-column
invariant-loop-column l = (l.count ≡ count_by (is_border l.sides) (map (λ x. (Chanx, x, l.y)) (range_with_len 1 l.column))) × (l.count ≤ l.column)
