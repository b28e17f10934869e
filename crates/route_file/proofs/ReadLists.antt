-- Lists that can be read back.
use Rattle.std.proofs.Common.{◌≡◌, ℕ, Bool, true, false, cond, not, ◌&&◌, List, [], ◌∷◌, ◌++◌, length, get_or, Option, Some, None}
use Rattle.std.specs.Prelude.{nat_lt}
use Rattle.std.specs.List.{list_any, list_all}
use Rattle.std.proofs.lemmas.Bool.{false≢true, ltb-true, and_parts, or_parts, not-true}
use Rattle.std.proofs.lemmas.Option.{slice_get-get_or}
use Rattle.rr_graph.specs.node.Kind.TheVariants.{Source}
use Rattle.rr_graph.specs.node.Node.{Node}
use Rattle.rr_graph.specs.Fabric.{Fabric, IsFabric}
use Rattle.rr_graph.specs.Nodes.{nodes_of, node_at, node_count_of}
use Rattle.rr_graph.specs.Problems.{Net, is_sink}
use Rattle.route_tree.specs.Paths.{Pair}
use Rattle.route_tree.specs.Legality.{is_listed}
use Rattle.route_tree.specs.Fits.{is_below, are_nodes}
use Rattle.route_file.specs.PrintedNodes.{goes_on, nodes_after}
use Rattle.route_file.specs.ReadBack.{tells_whole}
use Rattle.route_file.proofs.PrintedPairs.{LeaveSinks}
use Rattle.route_file.proofs.ReadReported.{IsSmall}
use Rattle.route_file.proofs.ReadSmall.{node_small}
use Rattle.route_file.proofs.ReadWalk.{AreNodes, IsReadable}

abbrev IsThere : Fabric → ℕ → Type 0
IsThere f a = (n : Node) × (node_at f a ≡ Some n) × IsSmall f n

there : (f : Fabric) → IsFabric f → (a : ℕ) → nat_lt a (node_count_of f) ≡ true → IsThere f a
there f l a e =
    let d : Node = record { kind = Source; x = 0; y = 0; number = 0 } in
    let n = get_or (nodes_of f) a d in
    let at : node_at f a ≡ Some n = slice_get-get_or (nodes_of f) a d (ltb-true a (node_count_of f) e) in
    (n, at, node_small f l a n at)

both_there : (f : Fabric) (p : Pair) (b : Bool) (rest : List ℕ) → IsThere f p.0 → IsThere f p.1 → AreNodes f rest → AreNodes f (cond b (p.1 ∷ []) (p.0 ∷ p.1 ∷ []) ++ rest)
both_there f p true rest h k m = (k, m)
both_there f p false rest h k m = (h, (k, m))

nodes_there : (f : Fabric) → IsFabric f → (before : Option ℕ) (pairs : List Pair) → list_all (is_below (node_count_of f)) pairs ≡ true → AreNodes f (nodes_after f before pairs)
nodes_there f l before [] e = tt
nodes_there f l before (p ∷ ps) e =
    let h = and_parts (is_below (node_count_of f) p) (list_all (is_below (node_count_of f)) ps) e in
    let ends = and_parts (nat_lt p.0 (node_count_of f)) (nat_lt p.1 (node_count_of f)) h.0 in
    both_there f p (goes_on f before p) (nodes_after f (Some p.1) ps) (there f l p.0 ends.0) (there f l p.1 ends.1) (nodes_there f l (Some p.1) ps h.1)

leaves : (f : Fabric) (pairs : List Pair) → list_any (λ p. is_sink f p.0) pairs ≡ false → LeaveSinks f pairs
leaves f [] e = tt
leaves f (p ∷ ps) e = let h = or_parts (is_sink f p.0) (list_any (λ q. is_sink f q.0) ps) e in (h.0, leaves f ps h.1)

pub list_readable : (f : Fabric) → IsFabric f → (n : Net) (list : Option (List Pair)) → are_nodes f list ≡ true → tells_whole f n list ≡ true → IsReadable f list
unfolding is_listed
list_readable f l n None nodes whole = tt
list_readable f l n (Some []) nodes whole = absurd (false≢true whole)
list_readable f l n (Some (p ∷ ps)) nodes whole =
    let kept = is_listed f n (p ∷ ps) in
    let sound = not (list_any (λ q. is_sink f q.0) (p ∷ ps)) in
    let h = and_parts (nat_lt 0 (length (p ∷ ps)) && kept) sound whole in
    let listed = and_parts (nat_lt 0 (length (p ∷ ps))) kept h.0 in
    (n.source, leaves f (p ∷ ps) (not-true (list_any (λ q. is_sink f q.0) (p ∷ ps)) h.1), listed.1, nodes_there f l None (p ∷ ps) nodes)
