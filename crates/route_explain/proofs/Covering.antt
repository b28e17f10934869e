-- The nets that cover an overused node are found by its number.
use Rattle.std.proofs.Common.{◌≡◌, ℕ, ◌<◌, ◌≤◌, Bool, true, false, cond, List, [], ◌∷◌, length, get_or, map, Option, Some, None, Result, Ok, Err, inl, inr, refl, sym, ap, subst, ◌∙◌, arith}
use Rattle.std.specs.Prelude.{Contains, IfSome, filter}
use Rattle.std.specs.List.Sorted.{IsStrictlyIncreasing, IsBinarySearchResult}
use Rattle.std.specs.Ordering.{nat_cmp}
use Rattle.std.specs.Result.{MatchResult}
use Rattle.std.proofs.lemmas.Bool.{cases_lt, ltb-true}
use Rattle.std.proofs.lemmas.List.{get_or-map, get_or_default, get_or_past}
use Rattle.std.proofs.lemmas.List.Kept.{IsStrictlyIncreasing-filter}
use Rattle.std.proofs.lemmas.List.Sorted.{searched}
use Rattle.rr_graph.specs.Fabric.{Fabric, numbers_below}
use Rattle.rr_graph.specs.Nodes.{node_at, node_count_of}
use Rattle.rr_graph.specs.Problems.{RoutingProblem}
use Rattle.rr_graph.proofs.Ranges.{length_below}
use Rattle.routing_problem.proofs.Ascending.{below_ascend, kept_below}
use Rattle.route_tree.specs.Usage.{Lists, room_of, use_of}
use Rattle.route_tree.proofs.Members.{rising}
use Rattle.route_report.specs.Covered.{uses_of}
use Rattle.route_report.specs.Overused.{Overuse, is_over, is_overused, nets_on, overuse_at, overused_nodes}
use Rattle.report_run.specs.Named.{if_over}
use Rattle.route_report.proofs.Overusing.{nodes_are}

kept_if : (f : Fabric) (uses : List ℕ) (a : ℕ) (b : Bool) → is_over f uses a ≡ b → IfSome (cond b (Some a) None) (λ k. is_over f uses k ≡ true)
kept_if f uses a true e = e
kept_if f uses a false e = tt

-- a node that is kept where it is overused is overused
pub over_if : (f : Fabric) (uses : List ℕ) (o : Option ℕ) → IfSome (if_over f uses o) (λ a. is_over f uses a ≡ true)
over_if f uses None = tt
over_if f uses (Some a) = kept_if f uses a (is_over f uses a) refl

module _ (p : RoutingProblem) (lists : Lists) where
  abbrev count : ℕ
  count = node_count_of p.device

  -- the overused nodes
  abbrev over : List ℕ
  over = filter (is_overused p lists) (numbers_below count)

  ascends : IsStrictlyIncreasing over
  ascends = IsStrictlyIncreasing-filter (is_overused p lists) (numbers_below count) (below_ascend count)

  numbers_of : (xs : List ℕ) → map (λ (o : Overuse). o.node) (map (overuse_at p lists) xs) ≡ xs
  numbers_of [] = refl
  numbers_of (x ∷ xs) = ap (λ ys. x ∷ ys) (numbers_of xs)

  count_uses : length (uses_of p lists) ≡ count
  unfolding uses_of
  count_uses = length_below (use_of p.nets lists) count

  within : (a : ℕ) → is_over p.device (uses_of p lists) a ≡ true → a < count
  within a e = elim (cases_lt a count) [
    | inl l ↦ l
    | inr past ↦ (
        let some = ltb-true (room_of p.device (node_at p.device a)) (get_or (uses_of p lists) a 0) e in
        let none = get_or_past (uses_of p lists) a 0 (let size = count_uses in omega (arith, past, size)) in
        absurd (omega (arith, some, none)))
  ]

  is_there : (a : ℕ) → is_over p.device (uses_of p lists) a ≡ true → Contains over a
  is_there a e =
      subst (λ xs. Contains xs a) (nodes_are p lists (uses_of p lists) refl)
      (kept_below (is_over p.device (uses_of p lists)) count a (within a e) e)

  module _ (nodes : List ℕ) (entries : List Overuse) (numbers : nodes ≡ map (λ o. o.node) entries) (all : entries ≡ overused_nodes p lists) (a : ℕ) where
    nodes_over : nodes ≡ over
    unfolding overused_nodes
    nodes_over = numbers ∙ ap (map (λ (o : Overuse). o.node)) all ∙ numbers_of over

    abbrev Found : Result ℕ ℕ → Type 0
    Found r = MatchResult r (λ i. (i < length nodes) × (get_or nodes i 0 ≡ a)) (λ i. (i ≤ length nodes) × ((k : ℕ) → k < i → get_or nodes k 0 < a) × ((k : ℕ) → i ≤ k → k < length nodes → a < get_or nodes k 0))

    found : (r : Result ℕ ℕ) → IsBinarySearchResult (λ y. nat_cmp y a) nodes r → Found r
    found r h = searched nodes a r h (rising nodes (subst IsStrictlyIncreasing (sym nodes_over) ascends))

    -- the entry that was found has the nets
    pub nets_found : (i : ℕ) (r : Result ℕ ℕ) (entry : Overuse) → r ≡ Ok i → IsBinarySearchResult (λ y. nat_cmp y a) nodes r → entry ≡ get_or entries i entry
        → entry.nets ≡ nets_on p lists a
    unfolding overused_nodes
    nets_found i r entry e h read =
        let at = subst Found e (found r h) in
        let low : i < length over = subst (λ xs. i < length xs) nodes_over at.0 in
        let is : entry ≡ overuse_at p lists (get_or over i 0) =
        read ∙ ap (λ xs. get_or xs i entry) all ∙ get_or-map (overuse_at p lists) over i 0 entry low in
        let node : get_or over i 0 ≡ a = ap (λ xs. get_or xs i 0) (sym nodes_over) ∙ at.1 in
        ap (λ (o : Overuse). o.nets) is ∙ ap (nets_on p lists) node

    -- the node has an entry
    pub none_missed : {P : Type 0} (i : ℕ) (r : Result ℕ ℕ) → r ≡ Err i → IsBinarySearchResult (λ y. nat_cmp y a) nodes r → is_over p.device (uses_of p lists) a ≡ true → P
    none_missed i r e h is =
        let apart = subst Found e (found r h) in
        let there = is_there a is in
        let k = there.0 in
        let low : k < length nodes = subst (λ xs. k < length xs) (sym nodes_over) there.1 in
        let same : get_or over k 0 ≡ a = get_or_default over k 0 a there.1 ∙ there.2 in
        let here : get_or nodes k 0 ≡ a = ap (λ xs. get_or xs k 0) nodes_over ∙ same in
        elim (cases_lt k i) [
          | inl before ↦ (let less = apart.1 k before in absurd (omega (arith, less, here)))
          | inr from ↦ (let more = apart.2 k from low in absurd (omega (arith, more, here)))
        ]
