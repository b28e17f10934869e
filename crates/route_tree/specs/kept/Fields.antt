-- What the fields of trees, marks and routings mean.
use Rattle.std.specs.Prelude.{ℕ, ◌==◌, Bool, List, length, map, Option}
use Rattle.route_tree.specs.Paths.{Pair}
use Rattle.route_tree.specs.declared.tree.Row.{Row}
use Rattle.route_tree.specs.declared.tree.Tree.TheInside as tree
use Rattle.route_tree.specs.declared.stamps.Stamps.TheInside as stamps
use Rattle.route_tree.specs.declared.marks.Marks.TheInside as marks
use Rattle.route_tree.specs.declared.routing.Pairs.TheInside as pairs
use Rattle.route_tree.specs.declared.routing.Routing.TheInside as routing

abbrev pub rows_of : tree.Inside → List Row
rows_of t = t.rows.items

-- which numbers are marked
abbrev pub flags_of : stamps.Inside → List Bool
flags_of s = map (λ m. m == s.stamp) s.marks.items

abbrev pub count_of : marks.Inside → ℕ
count_of m = length m.stamps

abbrev pub items_of : pairs.Inside → List Pair
items_of p = p.items.items

abbrev pub lists_of : routing.Inside → List (Option (List Pair))
lists_of r = r.lists.items
