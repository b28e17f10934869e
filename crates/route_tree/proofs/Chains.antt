-- A chain that hangs on a row of a tree makes a tree, and adds its pairs.
use Rattle.std.proofs.Common.{◌≡◌, ℕ, ◌+◌, ◌<◌, ◌≤◌, suc, inl, inr, List, [], ◌∷◌, ◌++◌, length, map, drop, get_or, refl, sym, ap, ap₂, ◌∙◌, subst, arith}
use Rattle.std.proofs.lemmas.List.{append_assoc, append-nil, length_push, length-drop, map-append, get_or-drop, get_or_append_left}
use Rattle.std.proofs.Math.Seq.{get_or-append_seam}
use Rattle.std.proofs.lemmas.Bool.{cases_lt}
use Rattle.route_tree.specs.Paths.{Pair}
use Rattle.route_tree.specs.declared.tree.Row.{Row}
use Rattle.route_tree.specs.Rows.{no_row, node_in, pair_of, pairs_of, chain, pairs_along, IsTree}

-- maps that agree on the rows of a list
same_mapped : (f g : Row → Pair) (rows : List Row) → ((k : ℕ) → k < length rows → f (get_or rows k no_row) ≡ g (get_or rows k no_row)) → map f rows ≡ map g rows
same_mapped f g [] h = refl
same_mapped f g (r ∷ rs) h = ap₂ (λ p ps. p ∷ ps) (h 0 (omega arith)) (same_mapped f g rs (λ k l. h (suc k) (omega arith)))

drop_one : (rows more : List Row) → 1 ≤ length rows → drop 1 (rows ++ more) ≡ drop 1 rows ++ more
drop_one [] more l = absurd (omega arith)
drop_one (r ∷ rs) more l = refl

module _ (rows : List Row) (r : Row) where
  old_row : (i : ℕ) → i < length rows → get_or (rows ++ r ∷ []) i no_row ≡ get_or rows i no_row
  old_row i l = get_or_append_left rows (r ∷ []) no_row i l

  new_row : get_or (rows ++ r ∷ []) (length rows) no_row ≡ r
  new_row = get_or-append_seam rows r [] no_row

  more_tree : IsTree rows → r.parent < length rows → IsTree (rows ++ r ∷ [])
  more_tree t l =
      let some = t.some in
      record {
        some = omega (arith, some, length_push rows r);
        root = ap (λ x. x.parent) (old_row 0 some) ∙ t.root;
        earlier = λ i low high. elim (cases_lt i (length rows)) [
          | inl old ↦ (let e = t.earlier i low old in let same = ap (λ x. x.parent) (old_row i old) in omega (arith, e, same))
          | inr new ↦
              let at : i ≡ length rows = omega (arith, high, new, length_push rows r) in
              let same : (get_or (rows ++ r ∷ []) i no_row).parent ≡ r.parent = ap (λ k. (get_or (rows ++ r ∷ []) k no_row).parent) at ∙ ap (λ x. x.parent) new_row in
              omega (arith, l, same, at)
        ];
      }

  old_pair : IsTree rows → (k : ℕ) → k < length (drop 1 rows) → pair_of (rows ++ r ∷ []) (get_or (drop 1 rows) k no_row) ≡ pair_of rows (get_or (drop 1 rows) k no_row)
  old_pair t k l =
      let some = t.some in
      let within : 1 + k < length rows = omega (arith, l, some, length-drop 1 rows) in
      let at = get_or-drop 1 rows k no_row in
      let early = t.earlier (1 + k) (omega arith) within in
      let same = ap (λ x. x.parent) at in
      let parent : (get_or (drop 1 rows) k no_row).parent < length rows = omega (arith, early, same, within) in
      ap (λ x. (x.node, (get_or (drop 1 rows) k no_row).node)) (old_row (get_or (drop 1 rows) k no_row).parent parent)

  more_pairs : IsTree rows → r.parent < length rows → pairs_of (rows ++ r ∷ []) ≡ pairs_of rows ++ pair_of rows r ∷ []
  unfolding pairs_of
  more_pairs t l =
      ap (map (pair_of (rows ++ r ∷ []))) (drop_one rows (r ∷ []) t.some)
      ∙ map-append (pair_of (rows ++ r ∷ [])) (drop 1 rows) (r ∷ [])
      ∙ ap₂ (λ ps p. ps ++ p ∷ []) (same_mapped (pair_of (rows ++ r ∷ [])) (pair_of rows) (drop 1 rows) (old_pair t))
      (ap (λ x. (x.node, r.node)) (old_row r.parent l))

link : (rows : List Row) (row n : ℕ) (ns : List ℕ) → (rows ++ record { node = n; parent = row } ∷ []) ++ chain (length (rows ++ record { node = n; parent = row } ∷ [])) (length rows) ns ≡ rows ++ chain (length rows) row (n ∷ ns)
link rows row n ns =
    append_assoc rows (record { node = n; parent = row } ∷ []) _ ∙ ap (λ k. rows ++ record { node = n; parent = row } ∷ chain k (length rows) ns) (length_push rows (record { node = n; parent = row }))

pub chain_tree : (rows : List Row) (row : ℕ) (nodes : List ℕ) → IsTree rows → row < length rows → IsTree (rows ++ chain (length rows) row nodes)
chain_tree rows row [] t l = subst IsTree (sym (append-nil rows)) t
chain_tree rows row (n ∷ ns) t l =
    let r : Row = record { node = n; parent = row } in
    subst IsTree (link rows row n ns)
    (chain_tree (rows ++ r ∷ []) (length rows) ns (more_tree rows r t l) (omega (arith, length_push rows r)))

pub chain_pairs : (rows : List Row) (row : ℕ) (nodes : List ℕ) → IsTree rows → row < length rows → pairs_of (rows ++ chain (length rows) row nodes) ≡ pairs_of rows ++ pairs_along (node_in rows row) nodes
chain_pairs rows row [] t l = ap pairs_of (append-nil rows) ∙ sym (append-nil (pairs_of rows))
chain_pairs rows row (n ∷ ns) t l =
    let r : Row = record { node = n; parent = row } in
    let rest = chain_pairs (rows ++ r ∷ []) (length rows) ns (more_tree rows r t l) (omega (arith, length_push rows r)) in
    ap pairs_of (sym (link rows row n ns)) ∙ rest
    ∙ ap₂ (λ ps a. ps ++ pairs_along a ns) (more_pairs rows r t l) (ap (λ x. x.node) (new_row rows r))
    ∙ append_assoc (pairs_of rows) (pair_of rows r ∷ []) (pairs_along n ns)
