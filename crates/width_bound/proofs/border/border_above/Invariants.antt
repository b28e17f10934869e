use Rattle.std.proofs.Common.{◌≡◌, ◌≤◌, ◌*◌, map}
use Rattle.std.specs.Prelude.{count_by}
use Rattle.std.specs.List.{range_with_len, flat_map}
use Rattle.rr_graph.specs.node.Kind.TheVariants.{Chanx}
use Rattle.rr_graph.specs.Fabric.{numbers_below}
use Rattle.width_bound.specs.Cuts.{is_border}
use Rattle.width_bound.proofs.border.border_above.Given as goal

abbrev pub invariant-loop-y : goal.invariant-loop-y
invariant-loop-y l =
    (l.count ≡ count_by (is_border l.sides) (flat_map (λ y. map (λ x. (Chanx, x, y)) (range_with_len 1 l.nx)) (numbers_below l.y))) × (l.count ≤ l.y * 100)
