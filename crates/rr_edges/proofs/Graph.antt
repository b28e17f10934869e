-- What the crates above use of the definitions: no node stands twice, edges join nodes, successors
-- ascend and are exactly the ends of edges.
use Rattle.std.proofs.Common.{◌≡◌, ℕ, ◌+◌, ◌<◌, ◌↔◌, true, false, Option, Some, None, Contains, inl, inr, refl, sym, ap, ◌∙◌, arith}
use Rattle.std.specs.List.Sorted.{IsStrictlyIncreasing}
use Rattle.std.proofs.lemmas.Bool.{cases_lt, false≢true}
use Rattle.std.proofs.lemmas.Option.{slice_get_past}
use Rattle.std.proofs.lemmas.List.Elements.{All-contains, filter_passes}
use Rattle.std.proofs.lemmas.List.Kept.{IsStrictlyIncreasing-filter}
use Rattle.std.proofs.lemmas.List.FromFn.{length-range_with_len, get_or-range_with_len}
use Rattle.channel_tables.specs.declared.node.Node.{Node}
use Rattle.channel_tables.specs.Fabric.{Fabric, numbers_below}
use Rattle.node_numbers.specs.Nodes.{nodes_of, node_count_of, node_at}
use Rattle.rr_edges.specs.Edges.{edge_between_nodes, edge_between, successors_of}
use Rattle.node_numbers.proofs.Ascending.{kept_below}

from_none : (f : Fabric) (o : Option Node) → edge_between_nodes f None o ≡ false
from_none f None = refl
from_none f (Some n) = refl

to_none : (f : Fabric) (o : Option Node) → edge_between_nodes f o None ≡ false
to_none f None = refl
to_none f (Some n) = refl

pub edge_from_node : (f : Fabric) (i j : ℕ) → edge_between f i j ≡ true → i < node_count_of f
unfolding edge_between
edge_from_node f i j e = elim (cases_lt i (node_count_of f)) [
  | inl l ↦ l
  | inr past ↦ absurd (false≢true (sym (ap (λ o. edge_between_nodes f o (node_at f j)) (slice_get_past (nodes_of f) i past) ∙ from_none f (node_at f j)) ∙ e))
]

pub edge_to_node : (f : Fabric) (i j : ℕ) → edge_between f i j ≡ true → j < node_count_of f
unfolding edge_between
edge_to_node f i j e = elim (cases_lt j (node_count_of f)) [
  | inl l ↦ l
  | inr past ↦ absurd (false≢true (sym (ap (edge_between_nodes f (node_at f i)) (slice_get_past (nodes_of f) j past) ∙ to_none f (node_at f i)) ∙ e))
]

pub numbers_ascend : (n : ℕ) → IsStrictlyIncreasing (numbers_below n)
numbers_ascend n k l =
    let m : k + 1 < n = omega (arith, length-range_with_len 0 n) in
    omega (arith, get_or-range_with_len 0 n k 0 (omega arith), get_or-range_with_len 0 n (k + 1) 0 m)

pub successors_ascend : (f : Fabric) (i : ℕ) → IsStrictlyIncreasing (successors_of f i)
unfolding successors_of
successors_ascend f i = IsStrictlyIncreasing-filter (edge_between f i) (numbers_below (node_count_of f)) (numbers_ascend (node_count_of f))

pub successors_contain : (f : Fabric) (i j : ℕ) → Contains (successors_of f i) j ↔ (edge_between f i j ≡ true)
unfolding successors_of
successors_contain f i j = (
  (λ h. All-contains (λ k. edge_between f i k ≡ true) (successors_of f i) j (filter_passes (edge_between f i) (numbers_below (node_count_of f))) h),
  (λ e. kept_below (edge_between f i) (node_count_of f) j (edge_to_node f i j e) e),
)
