-- The successors of the node of a number.
use Rattle.std.proofs.Common.{◌≡◌, ℕ, ◌<◌, false, Bool, List, [], ◌∷◌, length, Some, None, refl, ap, arith}
use Rattle.std.specs.List.{filter}
use Rattle.std.proofs.lemmas.List.Sums.{length-filter, count_by-le-length}
use Rattle.std.proofs.lemmas.List.FromFn.{length-range_with_len}
use Rattle.channel_tables.specs.declared.node.Kind.{Kind}
use Rattle.channel_tables.specs.declared.node.Kind.TheVariants.{Source, Sink, Opin, Ipin, Chanx, Chany}
use Rattle.channel_tables.specs.declared.node.Node.{Node}
use Rattle.channel_tables.specs.Fabric.{Fabric, IsFabric, numbers_below}
use Rattle.node_numbers.specs.Nodes.{node_at, node_count_of}
use Rattle.rr_edges.specs.Edges.{edge_between, edge_between_nodes, successors_of}
use Rattle.rr_edges.specs.kept.NodeSuccessors.{successors_by, node_successors, IsAtPlace}
use Rattle.node_numbers.proofs.Order.{node_count_small}
use Rattle.rr_edges.proofs.Pieces.{successors_of_sink}
use Rattle.rr_edges.proofs.PinSuccessors.{source_listed, ipin_listed}
use Rattle.rr_edges.proofs.OpinSuccessors.{opin_listed}
use Rattle.node_numbers.proofs.WiresAtPlaces.{row_wire_at, column_wire_at}
use Rattle.rr_edges.proofs.WireLists.{row_successors, column_successors}
use Rattle.rr_edges.proofs.TerminalPlaces.{terminal_node}

none_kept : (p : ℕ → Bool) (ns : List ℕ) → ((n : ℕ) → p n ≡ false) → filter p ns ≡ []
none_kept p [] h = refl
none_kept p (n ∷ ns) h = rw (h n) (none_kept p ns h)

-- what is no node has none
pub no_successors : (f : Fabric) (i : ℕ) → node_at f i ≡ None → successors_of f i ≡ []
unfolding successors_of edge_between
no_successors f i e = none_kept _ (numbers_below (node_count_of f)) (λ n. ap (λ o. edge_between_nodes f o (node_at f n)) e)

pub few_successors : (f : Fabric) → IsFabric f → (i : ℕ) → length (successors_of f i) < 8388608
unfolding successors_of
few_successors f l i =
    let all = numbers_below (node_count_of f) in
    omega (arith, length-filter (edge_between f i) all, count_by-le-length (edge_between f i) all, length-range_with_len 0 (node_count_of f), node_count_small f l)

module _ (f : Fabric) (within : IsFabric f) (i : ℕ) (a : Node) (h : node_at f i ≡ Some a) where
  by_kind : (k : Kind) → a.kind ≡ k → successors_of f i ≡ successors_by k f a
  by_kind Source e = source_listed f i a h e
  by_kind Sink e = successors_of_sink f i a h e
  by_kind Opin e = opin_listed f i a h e
  by_kind Ipin e = ipin_listed f i a h e
  by_kind Chanx e = row_successors f within i a h e
  by_kind Chany e = column_successors f within i a h e

  pub node_listed : successors_of f i ≡ node_successors f a
  node_listed = by_kind a.kind refl

  pub node_placed : IsAtPlace f a
  node_placed = record {
    terminal = terminal_node f within i a h;
    row_wire = λ e.
        (let d = row_wire_at f i a h e in
        (record { first = let b = d.0 in b.from; last = let b = d.0 in b.upto; here = let b = d.0 in b.begins_here; within = d.2 }, d.1));
    column_wire = λ e.
        (let d = column_wire_at f i a h e in
        (record { first = let b = d.0 in b.from; last = let b = d.0 in b.upto; here = let b = d.0 in b.begins_here; within = d.2 }, d.1));
  }
