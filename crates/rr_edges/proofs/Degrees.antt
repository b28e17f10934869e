-- The most successors that a node has.
use Rattle.std.proofs.Common.{◌≡◌, ℕ, ◌+◌, ◌^◌, ◌<◌, ◌≤◌, max, inl, inr, length, ap, arith}
use Rattle.std.proofs.lemmas.Bool.{cases_lt}
use Rattle.channel_tables.specs.Fabric.{Fabric}
use Rattle.node_numbers.specs.Nodes.{node_count_of}
use Rattle.rr_edges.specs.Edges.{successors_of}
use Rattle.node_numbers.proofs.NodesFound.{none_past}
use Rattle.rr_edges.proofs.NodeSuccessors.{no_successors}

abbrev degree_of : Fabric → ℕ → ℕ
degree_of f i = length (successors_of f i)

-- the most of the nodes below a bound; what is no node has none
pub record IsMostBelow (f : Fabric) (bound most : ℕ) : Type 0 where
  pub above : (i : ℕ) → i < bound → length (successors_of f i) ≤ most
  pub reached : (i : ℕ) × (length (successors_of f i) ≡ most)
  pub few : most < 2 ^ 23

module _ (f : Fabric) where
  none_after : (i : ℕ) → node_count_of f ≤ i → length (successors_of f i) ≡ 0
  none_after i l = ap length (no_successors f i (none_past f i l))

  pub most_of_none : IsMostBelow f 0 0
  most_of_none = record { above = λ i l. absurd (omega arith); reached = (node_count_of f, none_after (node_count_of f) (omega arith)); few = omega arith }

  pub most_of_more : (bound most degree next : ℕ) → IsMostBelow f bound most → degree ≡ length (successors_of f bound) → degree < 2 ^ 23 → next ≡ max most degree → IsMostBelow f (bound + 1) next
  most_of_more bound most degree next so_far here few both = record {
    above = λ i l. elim (cases_lt i bound) [
      | inl before ↦ (let low = so_far.above i before in omega arith)
      | inr last ↦ (let same : i ≡ bound = omega arith in omega (arith, ap (degree_of f) same))
    ];
    reached = elim (cases_lt most degree) [
      | inl more ↦ (bound, omega arith)
      | inr less ↦ (so_far.reached.0, omega (arith, so_far.reached.1))
    ];
    few = omega (arith, so_far.few);
  }

  pub most_of_all : (bound most : ℕ) → IsMostBelow f bound most → node_count_of f ≤ bound → (i : ℕ) → length (successors_of f i) ≤ most
  most_of_all bound most all l i = elim (cases_lt i bound) [
    | inl before ↦ all.above i before
    | inr past ↦ omega (arith, none_after i (omega arith))
  ]
