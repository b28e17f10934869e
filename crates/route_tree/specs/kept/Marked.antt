-- Which numbers are marked.
use Rattle.std.specs.Prelude.{◌≡◌, ℕ, Bool, false, List, get_or, map}
use Rattle.route_tree.specs.declared.tree.Row.{Row}
use Rattle.route_tree.specs.Legality.{is_among}

-- just these numbers are marked
abbrev pub IsMarked : List Bool → List ℕ → Type 0
IsMarked flags numbers = (a : ℕ) → get_or flags a false ≡ is_among numbers a

abbrev pub nodes_of : List Row → List ℕ
nodes_of rows = map (λ r. r.node) rows
