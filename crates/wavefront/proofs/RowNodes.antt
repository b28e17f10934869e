-- The rows of a tree and the nodes that it covers.
use Rattle.std.proofs.Common.{◌≡◌, ℕ, ◌<◌, List, ◌++◌, ◌==◌, true, length, inl, inr, refl, sym, ap, ◌∙◌, subst, arith}
use Rattle.std.specs.List.{list_any, position, position_or_len}
use Rattle.std.specs.Option.{unwrap_or}
use Rattle.std.proofs.lemmas.Bool.{cases_lt, eqb-true, false≢true, lt-ltb}
use Rattle.std.proofs.lemmas.List.Sums.{fails_before_first, passes_at_first}
use Rattle.std.proofs.lemmas.List.{get_or_append_left}
use Rattle.route_tree.specs.declared.tree.Row.{Row}
use Rattle.route_tree.specs.Rows.{IsTree, no_row, node_in, pairs_of}
use Rattle.route_tree.specs.Usage.{covers}
use Rattle.route_tree.proofs.LegalLists.{covers_source, covers_end}
use Rattle.route_tree.proofs.Members.{some_place}
use Rattle.route_tree.proofs.Trees.{covers_rows}
use Rattle.wavefront.specs.Space.{Space}
use Rattle.wavefront.specs.Growth.{Covers}

covered : (space : Space) (rows : List Row) (v : ℕ) → node_in rows 0 ≡ space.net.source → Covers space (pairs_of rows) v → covers (node_in rows 0) (pairs_of rows) v ≡ true
covered space rows v root (inl e) = subst (λ u. covers (node_in rows 0) (pairs_of rows) u ≡ true) (root ∙ sym e) (covers_source (node_in rows 0) (pairs_of rows))
covered space rows v root (inr h) = covers_end (node_in rows 0) (pairs_of rows) v h

-- a node that is covered has a row
pub start_row : (space : Space) (rows : List Row) (v : ℕ) → IsTree rows → node_in rows 0 ≡ space.net.source → Covers space (pairs_of rows) v → list_any (λ r. r.node == v) rows ≡ true
start_row space rows v tree root cover = covers_rows rows v tree ∙ covered space rows v root cover

-- more rows begin at the same node
pub same_root : (rows more : List Row) → IsTree rows → node_in (rows ++ more) 0 ≡ node_in rows 0
same_root rows more tree = let some = tree.some in ap (λ (r : Row). r.node) (get_or_append_left rows more no_row 0 (omega (arith, some)))

-- the first row of a node
first_row : (rows : List Row) (node : ℕ) → list_any (λ r. r.node == node) rows ≡ true → position_or_len (λ r. r.node == node) rows < length rows
first_row rows node any = elim (cases_lt (position_or_len (λ r. r.node == node) rows) (length rows)) [
  | inl l ↦ l
  | inr past ↦
      let (k, lt, passes) = some_place (λ (r : Row). r.node == node) rows no_row any in
      absurd (false≢true (sym (fails_before_first (λ (r : Row). r.node == node) rows k no_row (omega (arith, past, lt))) ∙ passes))
]

found_row : (rows : List Row) (node : ℕ) → list_any (λ r. r.node == node) rows ≡ true → unwrap_or (position (λ r. r.node == node) rows) 0 ≡ position_or_len (λ r. r.node == node) rows
found_row rows node any = rw (lt-ltb _ _ (first_row rows node any)) refl

pub row_there : (rows : List Row) (node : ℕ) → list_any (λ r. r.node == node) rows ≡ true → unwrap_or (position (λ r. r.node == node) rows) 0 < length rows
row_there rows node any = rw (found_row rows node any) (first_row rows node any)

pub row_node : (rows : List Row) (node : ℕ) → list_any (λ r. r.node == node) rows ≡ true → node_in rows (unwrap_or (position (λ r. r.node == node) rows) 0) ≡ node
row_node rows node any = rw (found_row rows node any) (eqb-true _ node (passes_at_first (λ (r : Row). r.node == node) rows no_row (first_row rows node any)))
