-- Rows and the pairs that they are.
use Rattle.std.proofs.Common.{◌≡◌, ℕ, ◌+◌, ◌<◌, ◌==◌, ◌||◌, List, [], ◌∷◌, length, map, get_or, All, refl, sym, ap, ap₂, ◌∙◌, arith}
use Rattle.std.specs.Prelude.{drop}
use Rattle.std.specs.List.{list_any}
use Rattle.std.proofs.lemmas.List.{length-map, length-drop, get_or-drop, get_or-map}
use Rattle.route_tree.specs.Paths.{Pair, ends_of}
use Rattle.route_tree.specs.Legality.{is_among}
use Rattle.route_tree.specs.declared.tree.Row.{Row}
use Rattle.route_tree.specs.Rows.{no_row, node_in, pair_of, pairs_of, IsTree}
use Rattle.route_tree.specs.Usage.{covers}

pub length_pairs : (rows : List Row) → IsTree rows → length (pairs_of rows) + 1 ≡ length rows
unfolding pairs_of
length_pairs rows t = let l = t.some in omega (arith, l, length-map (drop 1 rows) (pair_of rows), length-drop 1 rows)

pub pair_at : (rows : List Row) (i : ℕ) → IsTree rows → i < length (pairs_of rows) → get_or (pairs_of rows) i (0, 0) ≡ pair_of rows (get_or rows (i + 1) no_row)
unfolding pairs_of
pair_at rows i t l =
    let within : i < length (drop 1 rows) = omega (arith, l, length-map (drop 1 rows) (pair_of rows)) in
    let row : get_or (drop 1 rows) i no_row ≡ get_or rows (i + 1) no_row = get_or-drop 1 rows i no_row ∙ ap (λ k. get_or rows k no_row) (let e : 1 + i ≡ i + 1 = omega arith in e) in
    get_or-map (pair_of rows) (drop 1 rows) i no_row (0, 0) within ∙ ap (pair_of rows) row

any_node : (f : Row → Pair) (a : ℕ) → ((r : Row) → (f r).1 ≡ r.node) → (rows : List Row) → list_any (λ r. r.node == a) rows ≡ is_among (ends_of (map f rows)) a
any_node f a same [] = refl
any_node f a same (r ∷ rs) = ap₂ (λ x b. x == a || b) (sym (same r)) (any_node f a same rs)

pub covers_rows : (rows : List Row) (a : ℕ) → IsTree rows → list_any (λ r. r.node == a) rows ≡ covers (node_in rows 0) (pairs_of rows) a
unfolding pairs_of covers
covers_rows [] a t = let l = t.some in absurd (omega (arith, l))
covers_rows (r ∷ rs) a t = ap (λ b. r.node == a || b) (any_node (pair_of (r ∷ rs)) a (λ r. refl) rs)

-- a pair begins below a bound where all nodes stand below it
pub begins_below : (rows : List Row) (n i : ℕ) → IsTree rows → All (λ r. r.node < n) rows → i < length (pairs_of rows) → (get_or (pairs_of rows) i (0, 0)).0 < n
begins_below rows n i t below l =
    let row = get_or rows (i + 1) no_row in
    let size = length_pairs rows t in
    let within : i + 1 < length rows = omega (arith, l, size) in
    let early = t.earlier (i + 1) (omega arith) within in
    let parent = below row.parent no_row (omega (arith, early, within)) in
    let same = ap (λ p. p.0) (pair_at rows i t l) in
    omega (arith, parent, same)
