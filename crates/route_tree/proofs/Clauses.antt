-- Clauses of a legal list, and the tests that tell of them.
use Rattle.std.proofs.Common.{◌≡◌, ℕ, ◌+◌, ◌≤◌, ◌==◌, Bool, true, false, not, ◌&&◌, cond, List, [], ◌∷◌, get_or, All, ◌↔◌, refl, sym, ap, ◌∙◌, arith}
use Rattle.std.specs.Prelude.{Contains, count_by}
use Rattle.std.proofs.lemmas.Bool.{and_parts, both_ways, le-ltb, ltb-false, not-false, not_from_true}
use Rattle.std.proofs.lemmas.List.Elements.{All-contains, Contains-get_or}
use Rattle.std.proofs.lemmas.List.Sums.{sum_by-cons}
use Rattle.routing_problem.specs.Fabric.{Fabric}
use Rattle.routing_problem.specs.Edges.{edge_between}
use Rattle.routing_problem.specs.Problems.{Net, is_sink}
use Rattle.route_tree.specs.Paths.{Pair, ends_of}
use Rattle.route_tree.specs.Legality.{is_among, is_listed, is_listed_after}
use Rattle.route_tree.specs.Faults.{begins_elsewhere, lacks_switch, leaves_twice, has_foreign_sink, misses_sink}
use Rattle.route_tree.proofs.Members.{among_contains, contains_among, each_fails, none_passes}

-- ---- each pair is an edge
module _ (f : Fabric) (pairs : List Pair) where
  pub all_edges : lacks_switch f pairs ≡ false → All (λ p. edge_between f p.0 p.1 ≡ true) pairs
  all_edges none = λ k d l.
      let p = get_or pairs k d in
      not-false (edge_between f p.0 p.1) (each_fails (λ q. not (edge_between f q.0 q.1)) pairs p none (Contains-get_or pairs k d l))

  pub no_lack : All (λ p. edge_between f p.0 p.1 ≡ true) pairs → lacks_switch f pairs ≡ false
  no_lack all =
      none_passes (λ p. not (edge_between f p.0 p.1)) pairs
      (λ p h. not_from_true (edge_between f p.0 p.1) (All-contains (λ q. edge_between f q.0 q.1 ≡ true) pairs p all h))

-- ---- one pair begins at the source, and it is the first
counted : (b : Bool) (k : ℕ) → b ≡ true → 1 ≤ cond b 1 0 + k
counted true k e = omega arith
counted false k e = absurd (both_ways false refl e)

pub one_leaves : (source : ℕ) (pairs : List Pair) → begins_elsewhere source pairs ≡ false → leaves_twice source pairs ≡ false →
    count_by (λ p. p.0 == source) pairs ≡ 1
one_leaves source [] first few = absurd (both_ways true first refl)
one_leaves source (p ∷ ps) first few =
    let some = counted (p.0 == source) (count_by (λ (q : Pair). q.0 == source) ps) (not-false (p.0 == source) first) in
    let more = sum_by-cons (λ (q : Pair). cond (q.0 == source) 1 0) p ps in
    let most = ltb-false 1 (count_by (λ (q : Pair). q.0 == source) (p ∷ ps)) few in
    omega (arith, some, more, most)

pub not_twice : (source : ℕ) (pairs : List Pair) → count_by (λ p. p.0 == source) pairs ≡ 1 → leaves_twice source pairs ≡ false
not_twice source pairs one = le-ltb 1 (count_by (λ (q : Pair). q.0 == source) pairs) (omega (arith, one))

pub begins_there : (f : Fabric) (n : Net) (pairs : List Pair) → count_by (λ p. p.0 == n.source) pairs ≡ 1 →
    is_listed f n pairs ≡ true → begins_elsewhere n.source pairs ≡ false
unfolding is_listed
begins_there f n [] one listed = absurd (omega (arith, one))
begins_there f n (p ∷ ps) one listed =
    not_from_true (p.0 == n.source) (and_parts (p.0 == n.source) (is_listed_after f n.source (p.1 ∷ []) ps) listed).0

-- ---- the sinks at which pairs end are those of the net
module _ (f : Fabric) (sinks : List ℕ) (pairs : List Pair) where
  abbrev ExactSinks : Type 0
  ExactSinks = (s : ℕ) → (Contains (ends_of pairs) s × (is_sink f s ≡ true)) ↔ Contains sinks s

  wanted : has_foreign_sink f sinks pairs ≡ false → (s : ℕ) → Contains (ends_of pairs) s → is_sink f s ≡ true → Contains sinks s
  wanted none s there kind =
      let test = each_fails (λ b. is_sink f b && not (is_among sinks b)) (ends_of pairs) s none there in
      among_contains sinks s (not-false (is_among sinks s) (sym (ap (λ b. b && not (is_among sinks s)) kind) ∙ test))

  met : misses_sink sinks pairs ≡ false → (s : ℕ) → Contains sinks s → Contains (ends_of pairs) s
  met none s there =
      among_contains (ends_of pairs) s
      (not-false (is_among (ends_of pairs) s) (each_fails (λ t. not (is_among (ends_of pairs) t)) sinks s none there))

  pub exact_sinks : All (λ s. is_sink f s ≡ true) sinks → has_foreign_sink f sinks pairs ≡ false →
      misses_sink sinks pairs ≡ false → ExactSinks
  exact_sinks kinds foreign missed s =
      (λ h. wanted foreign s h.0 h.1, λ h. (met missed s h, All-contains (λ a. is_sink f a ≡ true) sinks s kinds h))

  foreign_at : ExactSinks → (b : ℕ) → Contains (ends_of pairs) b → (t : Bool) → is_sink f b ≡ t → (t && not (is_among sinks b)) ≡ false
  foreign_at exact b there false e = refl
  foreign_at exact b there true e = not_from_true (is_among sinks b) (contains_among sinks b ((exact b).0 (there, e)))

  pub none_foreign : ExactSinks → has_foreign_sink f sinks pairs ≡ false
  none_foreign exact =
      none_passes (λ b. is_sink f b && not (is_among sinks b)) (ends_of pairs)
      (λ b h. foreign_at exact b h (is_sink f b) refl)

  pub none_missed : ExactSinks → misses_sink sinks pairs ≡ false
  none_missed exact =
      none_passes (λ s. not (is_among (ends_of pairs) s)) sinks
      (λ s h. not_from_true (is_among (ends_of pairs) s) (contains_among (ends_of pairs) s ((exact s).1 h).0))
