use Rattle.std.proofs.Common.{◌≡◌, ◌≤◌, ◌*◌, map}
use Rattle.std.specs.Prelude.{count_by}
use Rattle.std.specs.List.{range_with_len, flat_map}
use Rattle.rr_graph.specs.node.Kind.TheVariants.{Chany}
use Rattle.rr_graph.specs.Fabric.{numbers_below}
use Rattle.width_bound.specs.Cuts.{is_border}
use Rattle.width_bound.proofs.border.border_right.Given as goal

abbrev pub invariant-loop-x : goal.invariant-loop-x
invariant-loop-x l =
    (l.count ≡ count_by (is_border l.sides) (flat_map (λ x. map (λ y. (Chany, x, y)) (range_with_len 1 l.ny)) (numbers_below l.x))) × (l.count ≤ l.x * 100)
