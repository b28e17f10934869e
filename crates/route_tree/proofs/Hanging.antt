-- The pairs of a tree hang on earlier ones, and the answers of the ladder.
use Rattle.std.proofs.Common.{◌≡◌, ℕ, ◌+◌, ◌<◌, ◌≤◌, ◌==◌, ◌↔◌, zero, suc, true, false, not, nat_lt, nat_le, if◌then◌else◌, List, ◌∷◌, length, take, get_or, Option, Some, None, Err, IsOk, refl, sym, ap, ap₂, ◌∙◌, subst, arith}
use Rattle.std.specs.Result.{result_err}
use Rattle.std.proofs.lemmas.Bool.{or_left, or_right, or_parts, not-false, eq-eqb, eqb-true, false≢true}
use Rattle.std.proofs.lemmas.Bool.Decides.{nat_tests}
use Rattle.std.proofs.lemmas.List.{length-map, get_or-map, get_or-take, length-take-le}
use Rattle.std.proofs.lemmas.List.Folds.{list_any_at}
use Rattle.routing_problem.specs.Fabric.{Fabric}
use Rattle.routing_problem.specs.Problems.{RoutingProblem, net_in}
use Rattle.route_tree.specs.declared.fault.TreeFault.{TreeFault}
use Rattle.route_tree.specs.declared.fault.TreeFault.TheVariants.{NoNet}
use Rattle.std.proofs.lemmas.Option.{none-some}
use Rattle.route_tree.specs.declared.tree.Row.{Row}
use Rattle.route_tree.specs.Paths.{Pair, ends_of}
use Rattle.route_tree.specs.Legality.{is_among}
use Rattle.route_tree.specs.Rows.{no_row, node_in, pairs_of, IsTree}
use Rattle.route_tree.specs.Faults.{begins_elsewhere}
use Rattle.route_tree.specs.kept.Ladder.{HangOnEarlier, net_fault_of, fault_of, or_ok}
use Rattle.route_tree.proofs.Trees.{length_pairs, pair_at}
use Rattle.route_tree.proofs.RowTests.{begins}

-- an end of the first pairs is among their ends
end_among : (pairs : List Pair) (k j : ℕ) → k ≤ length pairs → j < k → is_among (ends_of (take k pairs)) (get_or pairs j (0, 0)).1 ≡ true
end_among pairs k j within l =
    let ends = ends_of (take k pairs) in
    let end = (get_or pairs j (0, 0)).1 in
    let few : length (take k pairs) ≡ k = length-take-le k pairs within in
    let at : get_or ends j 0 ≡ end = get_or-map (λ (p : Pair). p.1) (take k pairs) j (0, 0) 0 (omega (arith, few)) ∙ ap (λ p. p.1) (get_or-take k pairs j (0, 0) l) in
    list_any_at (λ x. x == end) ends j 0 (omega (arith, few, length-map (take k pairs) (λ (p : Pair). p.1))) (eq-eqb (get_or ends j 0) end at)

pub rows_hang : (rows : List Row) (source : ℕ) → IsTree rows → begins_elsewhere source (pairs_of rows) ≡ false → HangOnEarlier source (pairs_of rows)
rows_hang rows source t e k l = from_parent (get_or rows (k + 1) no_row).parent refl
  where
    pairs : List Pair
    pairs = pairs_of rows

    first : node_in rows 0 ≡ source
    first = eqb-true (node_in rows 0) source (not-false (node_in rows 0 == source) (or_parts (nat_lt (length rows) 2) (not (node_in rows 0 == source)) (sym (begins rows source t) ∙ e)).1)

    begin : (get_or pairs k (0, 0)).0 ≡ node_in rows (get_or rows (k + 1) no_row).parent
    begin = ap (λ p. p.0) (pair_at rows k t l)

    from_parent : (r : ℕ) → (get_or rows (k + 1) no_row).parent ≡ r → is_among (source ∷ ends_of (take k pairs)) (get_or pairs k (0, 0)).0 ≡ true
    from_parent zero p =
        let at : source ≡ (get_or pairs k (0, 0)).0 = sym (begin ∙ ap (node_in rows) p ∙ first) in
        or_left (source == (get_or pairs k (0, 0)).0) (is_among (ends_of (take k pairs)) (get_or pairs k (0, 0)).0) (eq-eqb source (get_or pairs k (0, 0)).0 at)
    from_parent (suc j) p =
        let size = length_pairs rows t in
        let early = t.earlier (k + 1) (omega arith) (omega (arith, l, size)) in
        let before : j < k = omega (arith, early, p) in
        let next : suc j ≡ j + 1 = omega arith in
        let at : (get_or pairs j (0, 0)).1 ≡ (get_or pairs k (0, 0)).0 =
        ap (λ p. p.1) (pair_at rows j t (omega (arith, before, l))) ∙ sym (begin ∙ ap (node_in rows) (p ∙ next)) in
        or_right (source == (get_or pairs k (0, 0)).0) (is_among (ends_of (take k pairs)) (get_or pairs k (0, 0)).0)
        (subst (λ a. is_among (ends_of (take k pairs)) a ≡ true) at (end_among pairs k j (omega (arith, l)) before))

-- the faults of a net that is there
pub there : (p : RoutingProblem) (i : ℕ) (pairs : List Pair) (f : Fabric) (source : ℕ) (sinks : List ℕ) → i < length p.nets → f ≡ p.device → source ≡ (net_in p.nets i).source → sinks ≡ (net_in p.nets i).sinks → net_fault_of f source sinks pairs ≡ fault_of p i pairs
unfolding fault_of
there p i pairs f source sinks l a b c =
    let present : nat_le (length p.nets) i ≡ false = grind (arith, nat_tests, l) in
    ap (λ g. net_fault_of g source sinks pairs) a
    ∙ ap₂ (λ x y. net_fault_of p.device x y pairs) b c
    ∙ ap (λ t. if t then Some NoNet else net_fault_of p.device (net_in p.nets i).source (net_in p.nets i).sinks pairs) (sym present)

pub ok_none : (x : Option TreeFault) → IsOk (or_ok x) ↔ (x ≡ None)
ok_none None = (λ _. refl, λ _. refl)
ok_none (Some e) = (λ h. absurd (false≢true h), λ h. absurd (none-some e (sym h)))

pub err_some : (x : Option TreeFault) (e : TreeFault) → (or_ok x ≡ Err e) ↔ (x ≡ Some e)
err_some None e = (λ h. ap result_err h, λ h. ap or_ok h)
err_some (Some x) e = (λ h. ap result_err h, λ h. ap or_ok h)
