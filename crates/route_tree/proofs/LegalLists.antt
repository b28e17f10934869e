-- What a legal list of pairs says of the nodes that it covers.
use Rattle.std.proofs.Common.{◌≡◌, ◌≢◌, ℕ, ◌+◌, ◌<◌, ◌⊎◌, ◌==◌, Bool, true, false, ◌||◌, cond, List, [], ◌∷◌, length, get_or, inl, inr, refl, sym, ap, ap₂, ◌∙◌, subst, arith}
use Rattle.std.specs.Prelude.{Contains, count_by, nat_lt}
use Rattle.std.specs.List.{list_all, list_any}
use Rattle.std.proofs.lemmas.Bool.{and_from, both_ways, eqb-true, eq-eqb, lt-ltb, or_cases, or_left, or_parts, or_right, true_from_ne_false}
use Rattle.std.proofs.lemmas.List.Elements.{All-get_or}
use Rattle.std.proofs.lemmas.List.Sums.{list_all-from_AllPass, sum_by-cons}
use Rattle.routing_problem.specs.Fabric.{Fabric}
use Rattle.routing_problem.specs.Problems.{Net}
use Rattle.route_tree.specs.Paths.{Pair, Path, ends_of}
use Rattle.route_tree.specs.Paths.Path.{along}
use Rattle.route_tree.specs.Legality.{is_among, has_twice, LeadsToSink, IsJoined, IsLegal}
use Rattle.route_tree.specs.Usage.{covers}
use Rattle.route_tree.specs.Fits.{is_below}
use Rattle.routing_problem.specs.Nodes.{node_count_of}
use Rattle.routing_problem.proofs.Graph.{edge_from_node, edge_to_node}
use Rattle.route_tree.proofs.Members.{among_contains, among_ends, contains_among, end_among, pair_among, some_place}

-- ---- the nodes that pairs cover are the source and the ends
pub covered_cases : (source : ℕ) (pairs : List Pair) (a : ℕ) → covers source pairs a ≡ true → (source ≡ a) ⊎ Contains (ends_of pairs) a
unfolding covers
covered_cases source pairs a e = elim (or_cases (source == a) (is_among (ends_of pairs) a) e) [
  | inl h ↦ inl (eqb-true source a h)
  | inr h ↦ inr (among_contains (ends_of pairs) a h)
]

pub covers_source : (source : ℕ) (pairs : List Pair) → covers source pairs source ≡ true
unfolding covers
covers_source source pairs = or_left (source == source) (is_among (ends_of pairs) source) (eq-eqb source source refl)

pub covers_end : (source : ℕ) (pairs : List Pair) (a : ℕ) → Contains (ends_of pairs) a → covers source pairs a ≡ true
unfolding covers
covers_end source pairs a h = or_right (source == a) (is_among (ends_of pairs) a) (contains_among (ends_of pairs) a h)

-- a node of a list in which nothing stands twice counts once
counted : (x a : ℕ) (xs : List ℕ) (t : Bool) → (x == a) ≡ t → is_among xs x ≡ false →
    cond t 1 0 + cond (is_among xs a) 1 0 ≡ cond (t || is_among xs a) 1 0
counted x a xs true e none = ap (λ b. 1 + cond b 1 0) (ap (is_among xs) (sym (eqb-true x a e)) ∙ none)
counted x a xs false e none = omega arith

pub count_once : (xs : List ℕ) (a : ℕ) → has_twice xs ≡ false → count_by (λ x. x == a) xs ≡ cond (is_among xs a) 1 0
count_once [] a once = refl
count_once (x ∷ xs) a once =
    let parts = or_parts (is_among xs x) (has_twice xs) once in
    sum_by-cons (λ y. cond (y == a) 1 0) x xs ∙ ap (λ k. cond (x == a) 1 0 + k) (count_once xs a parts.1) ∙ counted x a xs (x == a) refl parts.0

none_counted : {X : Type 0} (test : X → Bool) (xs : List X) → list_any test xs ≡ false → count_by test xs ≡ 0
none_counted test [] none = refl
none_counted test (x ∷ xs) none =
    let parts = or_parts (test x) (list_any test xs) none in
    sum_by-cons (λ y. cond (test y) 1 0) x xs ∙ ap₂ (λ b k. cond b 1 0 + k) parts.0 (none_counted test xs parts.1)

module _ (f : Fabric) (n : Net) (pairs : List Pair) (legal : IsLegal f n pairs) where
  -- ---- each node is reached once

  pub source_apart : (a : ℕ) → Contains (ends_of pairs) a → n.source ≢ a
  source_apart a h = λ same.
      both_ways (is_among (ends_of pairs) n.source) (or_parts (is_among (ends_of pairs) n.source) (has_twice (ends_of pairs)) legal.once).0
      (contains_among (ends_of pairs) n.source (subst (Contains (ends_of pairs)) (sym same) h))

  -- the source and the ends, each counted once
  pub counts_covered : (a : ℕ) → count_by (λ b. b == a) (n.source ∷ ends_of pairs) ≡ cond (covers n.source pairs a) 1 0
  unfolding covers
  counts_covered a = count_once (n.source ∷ ends_of pairs) a legal.once

  -- ---- ways
  end_joined : (a : ℕ) → Contains (ends_of pairs) a → Path pairs n.source a × LeadsToSink n pairs a
  end_joined a h =
      let found = among_ends pairs a h in
      let joined = All-get_or (IsJoined n pairs) pairs found.0 (0, 0) found.1 legal.joined in
      (subst (Path pairs n.source) found.2 joined.from_source, subst (LeadsToSink n pairs) found.2 joined.to_sink)

  some_leaves : list_any (λ p. p.0 == n.source) pairs ≡ true
  some_leaves =
      true_from_ne_false (list_any (λ (p : Pair). p.0 == n.source) pairs)
      (λ none. let one = legal.one_output in let zero = none_counted (λ (p : Pair). p.0 == n.source) pairs none in omega (arith, one, zero))

  pub leaves_source : (k : ℕ) × (k < length pairs) × ((get_or pairs k (0, 0)).0 ≡ n.source)
  leaves_source =
      let found = some_place (λ (p : Pair). p.0 == n.source) pairs (0, 0) some_leaves in
      (found.0, found.1, eqb-true (get_or pairs found.0 (0, 0)).0 n.source found.2)

  source_leads : LeadsToSink n pairs n.source
  source_leads =
      let found = leaves_source in
      let p = get_or pairs found.0 (0, 0) in
      let on = (end_joined p.1 (end_among pairs found.0 found.1)).1 in
      (on.0, on.1, subst (λ b. Path pairs b on.0) found.2 (along p.0 p.1 on.0 (pair_among pairs found.0 found.1) on.2))

  pub leads_to_sink : (a : ℕ) → covers n.source pairs a ≡ true → LeadsToSink n pairs a
  leads_to_sink a e = elim (covered_cases n.source pairs a e) [
    | inl same ↦ subst (LeadsToSink n pairs) same source_leads
    | inr h ↦ (end_joined a h).1
  ]

  pub covers_sink : (s : ℕ) → Contains n.sinks s → covers n.source pairs s ≡ true
  covers_sink s h = covers_end n.source pairs s ((legal.sinks s).1 h).0

  -- ---- the covered nodes are nodes of the device
  pub covers_nodes : (a : ℕ) → covers n.source pairs a ≡ true → a < node_count_of f
  covers_nodes a e = elim (covered_cases n.source pairs a e) [
    | inl same ↦ (
        let p = leaves_source in
        subst (λ b. b < node_count_of f) (p.2 ∙ same) (edge_from_node f (get_or pairs p.0 (0, 0)).0 (get_or pairs p.0 (0, 0)).1 (legal.switches p.0 (0, 0) p.1)))
    | inr h ↦ (
        let p = among_ends pairs a h in
        subst (λ b. b < node_count_of f) p.2 (edge_to_node f (get_or pairs p.0 (0, 0)).0 (get_or pairs p.0 (0, 0)).1 (legal.switches p.0 (0, 0) p.1)))
  ]

  pub names_nodes : list_all (is_below (node_count_of f)) pairs ≡ true
  names_nodes =
      list_all-from_AllPass (is_below (node_count_of f)) pairs
      (λ k d l.
      let p = get_or pairs k d in
      let edge = legal.switches k d l in
      and_from (nat_lt p.0 (node_count_of f)) (nat_lt p.1 (node_count_of f))
      (lt-ltb p.0 (node_count_of f) (edge_from_node f p.0 p.1 edge))
      (lt-ltb p.1 (node_count_of f) (edge_to_node f p.0 p.1 edge)))
