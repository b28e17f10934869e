-- The nodes of a recorded tree are those that its net covers, each once.
use Rattle.std.proofs.Common.{◌≡◌, ℕ, ◌<◌, ◌≤◌, ◌==◌, true, List, [], ◌∷◌, length, get_or, All, Option, Some, None, refl, sym, ap, ◌∙◌, arith}
use Rattle.std.proofs.lemmas.List.Elements.{Contains-get_or, All-nil}
use Rattle.std.proofs.lemmas.Bool.{eqb-true, eq-eqb, and_parts}
use Rattle.routing_problem.specs.Nodes.{node_count_of}
use Rattle.routing_problem.specs.Problems.{Net, RoutingProblem, net_in}
use Rattle.routing_problem.specs.Fabric.{Fabric}
use Rattle.route_tree.specs.declared.tree.Row.{Row}
use Rattle.route_tree.specs.Paths.{Pair, ends_of}
use Rattle.route_tree.specs.Rows.{node_in, pair_of, pairs_of, IsTree}
use Rattle.route_tree.specs.TreeLists.{list_of_tree}
use Rattle.route_tree.specs.Legality.{IsListed, is_listed, is_listed_after}
use Rattle.route_tree.specs.Faults.{IsRoute}
use Rattle.route_tree.specs.kept.Marked.{nodes_of}
use Rattle.route_tree.specs.Usage.{covers, use_by}
use Rattle.route_tree.proofs.LegalLists.{counts_covered, covers_nodes, leaves_source}
use Rattle.route_tree.proofs.Trees.{covers_rows}
use Rattle.route_tree.proofs.Members.{one_passes}
use Rattle.congestion_book.specs.Turns.{one_if}
use Rattle.congestion_book.specs.kept.Usage.{times_in}
use Rattle.congestion_book.specs.kept.Views.{stands_in}
use Rattle.congestion_book.specs.kept.Counts.{IsTreeOrNone, rows_of}
use Rattle.congestion_book.specs.Recorded.{RoutesOrNone}
use Rattle.route_tree.proofs.RowTests.{ends_of_rows}

-- the first node, and where the pairs end
nodes_are : (rows : List Row) → IsTree rows → nodes_of rows ≡ node_in rows 0 ∷ ends_of (pairs_of rows)
unfolding pairs_of
nodes_are [] t = let l = t.some in absurd (omega (arith, l))
nodes_are (r ∷ rs) t = ap (λ ns. r.node ∷ ns) (ends_of_rows (pair_of (r ∷ rs)) (λ q. refl) rs)

-- the first pair of a list in order begins at the source
first_begins : (f : Fabric) (n : Net) (p : Pair) (ps : List Pair) → IsListed f n (p ∷ ps) → p.0 ≡ n.source
unfolding is_listed
first_begins f n p ps listed = eqb-true p.0 n.source (and_parts (p.0 == n.source) (is_listed_after f n.source (p.1 ∷ []) ps) listed).0

-- the first row of a tree that routes a net has its source
starts_at : (f : Fabric) (n : Net) (rows : List Row) (pairs : List Pair) → IsTree rows → pairs_of rows ≡ pairs → 1 ≤ length pairs → IsListed f n pairs → node_in rows 0 ≡ n.source
unfolding pairs_of
starts_at f n [] pairs t e some listed = let l = t.some in absurd (omega (arith, l))
starts_at f n (r ∷ []) pairs t e some listed = let none : length pairs ≡ 0 = sym (ap length e) in absurd (omega (arith, none, some))
starts_at f n (r ∷ q ∷ rs) [] t e some listed = absurd (omega (arith, some))
starts_at f n (r ∷ q ∷ rs) (p ∷ ps) t e some listed =
    let early : q.parent < 1 = t.earlier 1 (omega arith) (omega arith) in
    let zero : q.parent ≡ 0 = omega (arith, early) in
    let first : p ≡ (node_in (r ∷ q ∷ rs) q.parent, q.node) = sym (ap (λ (ps : List Pair). get_or ps 0 (0, 0)) e) in
    ap (node_in (r ∷ q ∷ rs)) (sym zero) ∙ (sym (ap (λ (p : Pair). p.0) first) ∙ first_begins f n p ps listed)

module _ (p : RoutingProblem) (i : ℕ) (rows : List Row) (tree : IsTree rows) (route : IsRoute p i (pairs_of rows)) where
  start : node_in rows 0 ≡ (net_in p.nets i).source
  start =
      let some = leaves_source p.device (net_in p.nets i) (pairs_of rows) route.legal in
      starts_at p.device (net_in p.nets i) rows (pairs_of rows) tree refl (omega (arith, some.1)) route.listed

  -- the net's use of a node is how often the node stands in the tree
  use_is : (a : ℕ) → use_by (net_in p.nets i) (Some (pairs_of rows)) a ≡ times_in (nodes_of rows) a
  use_is a =
      let n = net_in p.nets i in
      let nodes : nodes_of rows ≡ n.source ∷ ends_of (pairs_of rows) = nodes_are rows tree ∙ ap (λ b. b ∷ ends_of (pairs_of rows)) start in
      sym (ap (λ ns. times_in ns a) nodes ∙ counts_covered p.device n (pairs_of rows) route.legal a)

  -- and 1 where it stands there
  stands_once : (a : ℕ) → one_if (stands_in rows a) ≡ use_by (net_in p.nets i) (Some (pairs_of rows)) a
  stands_once a = ap one_if (covers_rows rows a tree) ∙ ap (λ s. one_if (covers s (pairs_of rows) a)) start

  rows_there : All (λ r. r.node < node_count_of p.device) rows
  rows_there k d l =
      let a = (get_or rows k d).node in
      let n = net_in p.nets i in
      let stands = one_passes (λ (r : Row). r.node == a) rows (get_or rows k d) (Contains-get_or rows k d l) (eq-eqb a a refl) in
      let covered : covers n.source (pairs_of rows) a ≡ true = ap (λ b. covers b (pairs_of rows) a) (sym start) ∙ (sym (covers_rows rows a tree) ∙ stands) in
      covers_nodes p.device n (pairs_of rows) route.legal a covered

-- ---- a net with its tree, or none
pub uses_rows : (p : RoutingProblem) (i : ℕ) (t : Option (List Row)) → IsTreeOrNone t → RoutesOrNone p i (list_of_tree t) →
    (a : ℕ) → use_by (net_in p.nets i) (list_of_tree t) a ≡ times_in (nodes_of (rows_of t)) a
uses_rows p i (Some rows) tree route a = use_is p i rows tree route a
uses_rows p i None tree route a = refl

pub uses_standing : (p : RoutingProblem) (i : ℕ) (t : Option (List Row)) → IsTreeOrNone t → RoutesOrNone p i (list_of_tree t) →
    (a : ℕ) → use_by (net_in p.nets i) (list_of_tree t) a ≡ one_if (stands_in (rows_of t) a)
uses_standing p i (Some rows) tree route a = sym (stands_once p i rows tree route a)
uses_standing p i None tree route a = refl

pub rows_within : (p : RoutingProblem) (i : ℕ) (t : Option (List Row)) → IsTreeOrNone t → RoutesOrNone p i (list_of_tree t) →
    All (λ r. r.node < node_count_of p.device) (rows_of t)
rows_within p i (Some rows) tree route = rows_there p i rows tree route
rows_within p i None tree route = All-nil (λ (r : Row). r.node < node_count_of p.device)
