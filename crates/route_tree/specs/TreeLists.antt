-- The lists of pairs of trees.
use Rattle.std.specs.Prelude.{List, map, Option, Some, None}
use Rattle.route_tree.specs.declared.tree.Row.{Row}
use Rattle.route_tree.specs.Paths.{Pair}
use Rattle.route_tree.specs.Rows.{pairs_of}

-- the pairs of a tree, where there is one
abbrev pub list_of_tree : Option (List Row) → Option (List Pair)
list_of_tree (Some rows) = Some (pairs_of rows)
list_of_tree None = None

-- for each net the pairs of its tree, or none
abbrev pub lists_of_trees : List (Option (List Row)) → List (Option (List Pair))
lists_of_trees trees = map list_of_tree trees
