-- A routing that routes a problem fits it.
use Rattle.std.proofs.Common.{◌≡◌, ℕ, ◌==◌, true, length, get_or, None, ap, ◌∙◌, arith}
use Rattle.std.specs.List.{list_all}
use Rattle.std.proofs.lemmas.Bool.{and_from, eq-eqb}
use Rattle.std.proofs.lemmas.List.{get_or_default}
use Rattle.std.proofs.lemmas.List.Sums.{list_all-from_AllPass}
use Rattle.routing_problem.specs.Problems.{RoutingProblem, net_in}
use Rattle.route_tree.specs.Fits.{are_nodes, fits_problem}
use Rattle.route_tree.proofs.LegalLists.{names_nodes}
use Rattle.route_check.specs.Routed.{IsNetRouted, IsRouted}
use Rattle.route_tree.specs.Usage.{Lists}

-- the list of a net that is routed names nodes
names_routed : (p : RoutingProblem) (lists : Lists) (i : ℕ) → IsNetRouted p lists i → are_nodes p.device (get_or lists i None) ≡ true
names_routed p lists i routed =
    let route = routed.2 in
    ap (are_nodes p.device) routed.1 ∙ names_nodes p.device (net_in p.nets i) routed.0 route.legal

pub routed_fits : (p : RoutingProblem) (lists : Lists) → IsRouted p lists → fits_problem p lists ≡ true
unfolding fits_problem
routed_fits p lists routed =
    and_from (length lists == length p.nets) (list_all (are_nodes p.device) lists) (eq-eqb (length lists) (length p.nets) routed.one_each)
    (list_all-from_AllPass (are_nodes p.device) lists
    (λ k d l.
    let one_each = routed.one_each in
    ap (are_nodes p.device) (get_or_default lists k d None l)
    ∙ names_routed p lists k (routed.routed k (omega (arith, l, one_each)))))
