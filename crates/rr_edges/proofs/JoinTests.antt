-- When two wires join, by their first and last places.
use Rattle.std.proofs.Common.{◌≡◌, ℕ, Bool, inl, inr, refl, sym, ap, ◌∙◌}
use Rattle.std.specs.Prelude.{◌==◌, ◌&&◌}
use Rattle.std.proofs.lemmas.Bool.{cases_Bool, eqb-true}
use Rattle.channel_tables.specs.declared.node.Kind.TheVariants.{Chanx, Chany}
use Rattle.channel_tables.specs.declared.node.Node.{Node}
use Rattle.channel_tables.specs.Fabric.{Fabric}
use Rattle.channel_tables.specs.Wires.{last_of}
use Rattle.channel_tables.specs.LastPlaces.{last_by}
use Rattle.node_numbers.specs.Nodes.{node_of}
use Rattle.rr_edges.specs.kept.Channels.{is_next_to, passes_corner}
use Rattle.rr_edges.specs.Edges.{joins}
use Rattle.rr_edges.proofs.Joins.{chanx_joins_chanx, chanx_joins_chany, chany_joins_chanx, chany_joins_chany}

same_track : (s t : ℕ) (g : ℕ → Bool) → ((s == t) && g s) ≡ ((s == t) && g t)
same_track s t g = elim (cases_Bool (s == t)) [
  | inl same ↦ ap (λ u. (s == t) && g u) (eqb-true s t same)
  | inr other ↦ rw other refl
]

rows_meet : (f : Fabric) (x y t p r s : ℕ) → ((s == t) && ((r == y) && is_next_to x (last_of f f.nx t x) p (last_of f f.nx s p))) ≡ joins f (node_of Chanx x y t) (node_of Chanx p r s)
rows_meet f x y t p r s = same_track s t (λ u. (r == y) && is_next_to x (last_of f f.nx t x) p (last_of f f.nx u p)) ∙ sym (chanx_joins_chanx f x y t p r s)

pub rows_join : (f : Fabric) (a b : Node) (a_last b_last : ℕ) → a.kind ≡ Chanx → b.kind ≡ Chanx → a_last ≡ last_by a.kind f a → b_last ≡ last_by b.kind f b
    → ((b.number == a.number) && ((b.y == a.y) && is_next_to a.x a_last b.x b_last)) ≡ joins f a b
rows_join f a b a_last b_last ea eb al bl =
    let first : a_last ≡ last_of f f.nx a.number a.x = al ∙ ap (λ k. last_by k f a) ea in
    let second : b_last ≡ last_of f f.nx b.number b.x = bl ∙ ap (λ k. last_by k f b) eb in
    rw (first, second) (rows_meet f a.x a.y a.number b.x b.y b.number)
    ∙ ap (λ k. joins f (node_of k a.x a.y a.number) (node_of Chanx b.x b.y b.number)) (sym ea) ∙ ap (λ k. joins f a (node_of k b.x b.y b.number)) (sym eb)

row_and_column_meet : (f : Fabric) (x y t p r s : ℕ) → ((s == t) && (passes_corner x (last_of f f.nx t x) p && passes_corner r (last_of f f.ny s r) y)) ≡ joins f (node_of Chanx x y t) (node_of Chany p r s)
row_and_column_meet f x y t p r s = same_track s t (λ u. passes_corner x (last_of f f.nx t x) p && passes_corner r (last_of f f.ny u r) y) ∙ sym (chanx_joins_chany f x y t p r s)

pub row_and_column_join : (f : Fabric) (a b : Node) (a_last b_last : ℕ) → a.kind ≡ Chanx → b.kind ≡ Chany → a_last ≡ last_by a.kind f a → b_last ≡ last_by b.kind f b
    → ((b.number == a.number) && (passes_corner a.x a_last b.x && passes_corner b.y b_last a.y)) ≡ joins f a b
row_and_column_join f a b a_last b_last ea eb al bl =
    let first : a_last ≡ last_of f f.nx a.number a.x = al ∙ ap (λ k. last_by k f a) ea in
    let second : b_last ≡ last_of f f.ny b.number b.y = bl ∙ ap (λ k. last_by k f b) eb in
    rw (first, second) (row_and_column_meet f a.x a.y a.number b.x b.y b.number)
    ∙ ap (λ k. joins f (node_of k a.x a.y a.number) (node_of Chany b.x b.y b.number)) (sym ea) ∙ ap (λ k. joins f a (node_of k b.x b.y b.number)) (sym eb)

column_and_row_meet : (f : Fabric) (x y t p r s : ℕ) → ((s == t) && (passes_corner y (last_of f f.ny t y) r && passes_corner p (last_of f f.nx s p) x)) ≡ joins f (node_of Chany x y t) (node_of Chanx p r s)
column_and_row_meet f x y t p r s = same_track s t (λ u. passes_corner y (last_of f f.ny t y) r && passes_corner p (last_of f f.nx u p) x) ∙ sym (chany_joins_chanx f x y t p r s)

pub column_and_row_join : (f : Fabric) (a b : Node) (a_last b_last : ℕ) → a.kind ≡ Chany → b.kind ≡ Chanx → a_last ≡ last_by a.kind f a → b_last ≡ last_by b.kind f b
    → ((b.number == a.number) && (passes_corner a.y a_last b.y && passes_corner b.x b_last a.x)) ≡ joins f a b
column_and_row_join f a b a_last b_last ea eb al bl =
    let first : a_last ≡ last_of f f.ny a.number a.y = al ∙ ap (λ k. last_by k f a) ea in
    let second : b_last ≡ last_of f f.nx b.number b.x = bl ∙ ap (λ k. last_by k f b) eb in
    rw (first, second) (column_and_row_meet f a.x a.y a.number b.x b.y b.number)
    ∙ ap (λ k. joins f (node_of k a.x a.y a.number) (node_of Chanx b.x b.y b.number)) (sym ea) ∙ ap (λ k. joins f a (node_of k b.x b.y b.number)) (sym eb)

columns_meet : (f : Fabric) (x y t p r s : ℕ) → ((s == t) && ((p == x) && is_next_to y (last_of f f.ny t y) r (last_of f f.ny s r))) ≡ joins f (node_of Chany x y t) (node_of Chany p r s)
columns_meet f x y t p r s = same_track s t (λ u. (p == x) && is_next_to y (last_of f f.ny t y) r (last_of f f.ny u r)) ∙ sym (chany_joins_chany f x y t p r s)

pub columns_join : (f : Fabric) (a b : Node) (a_last b_last : ℕ) → a.kind ≡ Chany → b.kind ≡ Chany → a_last ≡ last_by a.kind f a → b_last ≡ last_by b.kind f b
    → ((b.number == a.number) && ((b.x == a.x) && is_next_to a.y a_last b.y b_last)) ≡ joins f a b
columns_join f a b a_last b_last ea eb al bl =
    let first : a_last ≡ last_of f f.ny a.number a.y = al ∙ ap (λ k. last_by k f a) ea in
    let second : b_last ≡ last_of f f.ny b.number b.y = bl ∙ ap (λ k. last_by k f b) eb in
    rw (first, second) (columns_meet f a.x a.y a.number b.x b.y b.number)
    ∙ ap (λ k. joins f (node_of k a.x a.y a.number) (node_of Chany b.x b.y b.number)) (sym ea) ∙ ap (λ k. joins f a (node_of k b.x b.y b.number)) (sym eb)
