-- A tree as its rows: each row is a node and the row of the node before it.
use Rattle.std.specs.Prelude.{◌≡◌, ℕ, ◌+◌, ◌≤◌, ◌<◌, List, [], ◌∷◌, length, map, get_or, drop}
use Rattle.route_tree.specs.declared.tree.Row.{Row}
use Rattle.route_tree.specs.Paths.{Pair}

abbrev pub no_row : Row
no_row = record { node = 0; parent = 0 }

abbrev pub node_in : List Row → ℕ → ℕ
node_in rows i = (get_or rows i no_row).node

abbrev pub pair_of : List Row → Row → Pair
pair_of rows r = (node_in rows r.parent, r.node)

-- the pairs of a tree: each row but the first, from its parent's node to its own
unfoldable pub pairs_of : List Row → List Pair
pairs_of rows = map (pair_of rows) (drop 1 rows)

-- nodes in a chain: the first hangs on row `parent`, each next one on the one before; `next` is the
-- row of the first
abbrev pub chain : (next parent : ℕ) → List ℕ → List Row
chain next parent [] = []
chain next parent (n ∷ ns) = record { node = n; parent = parent } ∷ chain (next + 1) next ns

-- the pairs of a chain after node a
abbrev pub pairs_along : ℕ → List ℕ → List Pair
pairs_along a [] = []
pairs_along a (b ∷ bs) = (a, b) ∷ pairs_along b bs

-- what every tree keeps: it has a row, and each row's parent comes before it; the first row is its
-- own
pub record IsTree (rows : List Row) : Type 0 where
  pub some : 1 ≤ length rows
  pub root : (get_or rows 0 no_row).parent ≡ 0
  pub earlier : (i : ℕ) → 1 ≤ i → i < length rows → (get_or rows i no_row).parent < i
