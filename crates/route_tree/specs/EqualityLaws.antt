-- Two trees are the same exactly where the test says so, and the test is an equivalence.
use Rattle.std.proofs.Common.{◌≡◌, List, ap}
use Rattle.std.specs.Bool.{Decides}
use Rattle.std.specs.Cmp.{IsEquivalence, IsPartialEquivalence, partial_equiv_from_equiv, unsigned_Decides}
use Rattle.std.specs.Cmp.Lexicographic.{pointwise_decides}
use Rattle.std.proofs.lemmas.Bool.Decides.{Decides-and, Decides-like}
use Rattle.routing_problem.specs.EqualityLaws.{equivalence_from_decides}
use Rattle.route_tree.specs.declared.tree.Row.{Row}
use Rattle.route_tree.specs.Equality.{same_row, is_same_tree}

row_decides : (a b : Row) → Decides (same_row a b) (a ≡ b)
row_decides a b =
    Decides-like (same_row a b) (λ h. λ i. record { node = h.0 i; parent = h.1 i }) (λ e. (ap (λ r. r.node) e, ap (λ r. r.parent) e))
    (Decides-and _ _ (unsigned_Decides a.node b.node) (unsigned_Decides a.parent b.parent))

-- the test is true exactly where the two are the same
pub same_tree : (a b : List Row) → Decides (is_same_tree a b) (a ≡ b)
unfolding is_same_tree
same_tree a b = pointwise_decides row_decides a b

pub same_tree_equivalence : IsEquivalence is_same_tree
same_tree_equivalence = equivalence_from_decides is_same_tree same_tree

pub same_tree_symmetric : IsPartialEquivalence is_same_tree
same_tree_symmetric = partial_equiv_from_equiv same_tree_equivalence
