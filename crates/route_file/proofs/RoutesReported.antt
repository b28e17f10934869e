-- The text of a routing that routes its problem tells each list whole.
use Rattle.std.proofs.Common.{◌≡◌, ℕ, ◌<◌, true, false, List, [], ◌∷◌, length, get_or, Option, Some, None, refl, ap, ◌∙◌, arith}
use Rattle.std.specs.Prelude.{count_by, ◌==◌}
use Rattle.std.specs.List.{list_any}
use Rattle.std.proofs.lemmas.Bool.{lt-ltb}
use Rattle.std.proofs.lemmas.List.Elements.{All-weaker}
use Rattle.std.proofs.lemmas.List.Folds.{list_any_none}
use Rattle.rr_graph.specs.Edges.{edge_between}
use Rattle.rr_graph.specs.Fabric.{Fabric}
use Rattle.rr_graph.specs.Problems.{Net, RoutingProblem, net_in, is_sink}
use Rattle.rr_graph.proofs.EdgeEnds.{leaves_no_sink}
use Rattle.route_tree.specs.Paths.{Pair}
use Rattle.route_tree.specs.Legality.{is_listed}
use Rattle.route_tree.specs.Faults.{IsRoute}
use Rattle.route_file.specs.ReadBack.{is_reported_whole, tells_whole, TellsWhole}

some_pairs : (f : Fabric) (n : Net) (pairs : List Pair) → count_by (λ p. p.0 == n.source) pairs ≡ 1 → is_listed f n pairs ≡ true
    → list_any (λ p. is_sink f p.0) pairs ≡ false → is_reported_whole f n pairs ≡ true
some_pairs f n [] one listed none = absurd (omega (arith, one))
some_pairs f n (p ∷ ps) one listed none =
    let some : 0 < length (p ∷ ps) = omega arith in
    rw (lt-ltb 0 (length (p ∷ ps)) some, listed, none) refl

-- pairs that route a net are reported whole
pub reported_route : (p : RoutingProblem) (i : ℕ) (pairs : List Pair) → IsRoute p i pairs → is_reported_whole p.device (net_in p.nets i) pairs ≡ true
reported_route p i pairs route =
    let f = p.device in
    some_pairs f (net_in p.nets i) pairs route.legal.one_output route.listed
    (list_any_none (λ q. is_sink f q.0) pairs (All-weaker (λ q. edge_between f q.0 q.1 ≡ true) (λ q. is_sink f q.0 ≡ false) (λ q e. leaves_no_sink f q.0 q.1 e) pairs route.legal.switches))

-- and so is a routing in which each net has such a list
pub reported_routing : (p : RoutingProblem) (lists : List (Option (List Pair)))
    → ((i : ℕ) → i < length p.nets → (pairs : List Pair) × (get_or lists i None ≡ Some pairs) × IsRoute p i pairs) → TellsWhole p lists
reported_routing p lists routed = λ i l.
    let here = routed i l in
    ap (tells_whole p.device (net_in p.nets i)) here.1 ∙ reported_route p i here.0 here.2
