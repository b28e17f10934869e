-- When two trees are the same: their rows are, each with its node and its parent.
use Rattle.std.specs.Prelude.{◌==◌, Bool, ◌&&◌, List}
use Rattle.std.specs.Cmp.Lexicographic.{pointwise}
use Rattle.route_tree.specs.declared.tree.Row.{Row}

abbrev pub same_row : Row → Row → Bool
same_row a b = a.node == b.node && a.parent == b.parent

unfoldable pub is_same_tree : List Row → List Row → Bool
is_same_tree a b = pointwise same_row a b
