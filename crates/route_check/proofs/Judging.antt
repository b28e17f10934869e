-- The tests tell exactly which lists route a net, and which fault is the first.
use Rattle.std.proofs.Common.{◌≡◌, ℕ, ◌<◌, ◌≤◌, Bool, true, false, not, cond, List, [], ◌∷◌, length, Option, Some, None, All, if◌then◌else◌, refl, sym, ap, ◌∙◌, subst, arith}
use Rattle.std.specs.Prelude.{MatchOption}
use Rattle.std.specs.List.{find}
use Rattle.std.proofs.lemmas.Bool.{both_ways, MatchBool-at_true, MatchBool-at_false, not-false, not-true}
use Rattle.std.proofs.lemmas.List.Elements.{All-get_or, All-weaker}
use Rattle.routing_problem.specs.Fabric.{Fabric}
use Rattle.routing_problem.specs.Problems.{Net, RoutingProblem, IsNet, IsProblem, no_net, net_in}
use Rattle.route_tree.specs.declared.fault.TreeFault.{TreeFault}
use Rattle.route_tree.specs.declared.fault.TreeFault.TheVariants.{NoNet, WrongSource, NoSwitch, NodeTwice, SecondOutput, ForeignSink, Dangling, MissingSink, Order}
use Rattle.route_tree.specs.Paths.{Pair}
use Rattle.route_tree.specs.Legality.{IsJoined, is_listed}
use Rattle.route_tree.specs.Faults.{begins_elsewhere, lacks_switch, reaches_twice, leaves_twice, has_foreign_sink, misses_sink, rank_of, HasFault, IsRoute}
use Rattle.route_tree.proofs.Clauses.{all_edges, one_leaves, exact_sinks}
use Rattle.route_tree.proofs.FirstTests.{all_faults, first_found, none_found}
use Rattle.route_check.specs.kept.Judged.{Judges, net_of, Dangles, TellsDangling, early_fault_of, late_fault_of, IsReportedLate, IsReportedBy}

-- ---- chains of tests
failed : (b : Bool) (x : TreeFault) (rest : Option TreeFault) → (if b then Some x else rest) ≡ None → (b ≡ false) × (rest ≡ None)
failed true x rest e = absurd (let other = e in cc)
failed false x rest e = (refl, e)

-- the first answer, or the other one
abbrev or_else : Option TreeFault → Option TreeFault → Option TreeFault
or_else (Some x) later = Some x
or_else None later = later

behind : (b : Bool) (x : TreeFault) (rest later : Option TreeFault) → or_else (if b then Some x else rest) later ≡ (if b then Some x else or_else rest later)
behind true x rest later = refl
behind false x rest later = refl

-- a fault of a chain has a rank below 7 where the others of the chain have
low : (b : Bool) (x : TreeFault) (rest : Option TreeFault) → rank_of x < 7 → ((y : TreeFault) → rest ≡ Some y → rank_of y < 7) →
    (y : TreeFault) → (if b then Some x else rest) ≡ Some y → rank_of y < 7
low true x rest l h y e = subst (λ z. rank_of z < 7) (some_is x y e) l
  where
    some_is : (x y : TreeFault) → Some x ≡ Some y → x ≡ y
    some_is x y e = cc
low false x rest l h y e = h y e

none_low : (y : TreeFault) → None ≡ Some y → rank_of y < 7
none_low y e = absurd (cc)

some_pairs : (source : ℕ) (pairs : List Pair) → begins_elsewhere source pairs ≡ false → 1 ≤ length pairs
some_pairs source [] e = absurd (both_ways true e refl)
some_pairs source (p ∷ ps) e = omega arith

module _ (f : Fabric) (source : ℕ) (sinks : List ℕ) (pairs : List Pair) where
  -- what pairs without an early fault are
  pub record IsEarlyFree : Type 0 where
    pub some : 1 ≤ length pairs
    pub once : reaches_twice source pairs ≡ false
    pub own : has_foreign_sink f sinks pairs ≡ false

  pub early_free : early_fault_of f source sinks pairs ≡ None → IsEarlyFree
  unfolding early_fault_of
  early_free e =
      let first = failed (begins_elsewhere source pairs) WrongSource _ e in
      let second = failed (lacks_switch f pairs) NoSwitch _ first.1 in
      let third = failed (reaches_twice source pairs) NodeTwice _ second.1 in
      let fourth = failed (leaves_twice source pairs) SecondOutput _ third.1 in
      record { some = some_pairs source pairs first.0; once = third.0; own = (failed (has_foreign_sink f sinks pairs) ForeignSink None fourth.1).0 }

  early_low : (y : TreeFault) → early_fault_of f source sinks pairs ≡ Some y → rank_of y < 7
  unfolding early_fault_of
  early_low =
      low (begins_elsewhere source pairs) WrongSource _ (omega arith)
      (low (lacks_switch f pairs) NoSwitch _ (omega arith)
      (low (reaches_twice source pairs) NodeTwice _ (omega arith)
      (low (leaves_twice source pairs) SecondOutput _ (omega arith)
      (low (has_foreign_sink f sinks pairs) ForeignSink None (omega arith) none_low))))

  -- the tests by fault
  abbrev test_of : (dangles : Bool) → TreeFault → Bool
  test_of dangles NoNet = false
  test_of dangles WrongSource = begins_elsewhere source pairs
  test_of dangles NoSwitch = lacks_switch f pairs
  test_of dangles NodeTwice = reaches_twice source pairs
  test_of dangles SecondOutput = leaves_twice source pairs
  test_of dangles ForeignSink = has_foreign_sink f sinks pairs
  test_of dangles Dangling = dangles
  test_of dangles MissingSink = misses_sink sinks pairs
  test_of dangles Order = not (is_listed f (net_of source sinks) pairs)

  last : (b : Bool) → (if b then None else Some Order) ≡ cond (not b) (Some Order) None
  last true = refl
  last false = refl

  by_tests : (dangles : Bool) → or_else (early_fault_of f source sinks pairs) (late_fault_of dangles (is_listed f (net_of source sinks) pairs) sinks pairs) ≡ find (test_of dangles) all_faults
  unfolding early_fault_of late_fault_of
  by_tests dangles =
      let a = begins_elsewhere source pairs in
      let b = lacks_switch f pairs in
      let c = reaches_twice source pairs in
      let d = leaves_twice source pairs in
      let e = has_foreign_sink f sinks pairs in
      let late = late_fault_of dangles (is_listed f (net_of source sinks) pairs) sinks pairs in
      behind a WrongSource _ late
      ∙ ap (λ r. if a then Some WrongSource else r) (behind b NoSwitch _ late
      ∙ ap (λ r. if b then Some NoSwitch else r) (behind c NodeTwice _ late
      ∙ ap (λ r. if c then Some NodeTwice else r) (behind d SecondOutput _ late
      ∙ ap (λ r. if d then Some SecondOutput else r) (behind e ForeignSink None late
      ∙ ap (λ r. if e then Some ForeignSink else (if dangles then Some Dangling else (if misses_sink sinks pairs then Some MissingSink else r)))
      (last (is_listed f (net_of source sinks) pairs))))))

  -- the answer where no early test failed
  pub reported_late : (dangles listed : Bool) (reported : Option TreeFault) → early_fault_of f source sinks pairs ≡ None →
      TellsDangling dangles source sinks pairs → listed ≡ is_listed f (net_of source sinks) pairs → reported ≡ late_fault_of dangles listed sinks pairs →
      IsReportedBy f source sinks pairs reported
  reported_late dangles listed reported early tells order e =
      subst (λ x. MatchOption x (IsReportedLate f source sinks pairs reported) (λ fault. reported ≡ Some fault)) (sym early)
      (dangles, tells, e ∙ ap (λ l. late_fault_of dangles l sinks pairs) order)

-- ---- what the tests say of a net of a problem
module _ (p : RoutingProblem) (i : ℕ) (there : i < length p.nets) (pairs : List Pair) where
  abbrev n : Net
  n = net_in p.nets i

  abbrev test : (dangles : Bool) → TreeFault → Bool
  test dangles = test_of p.device n.source n.sinks pairs dangles

  -- of the faults that are seen pair by pair
  has_low : (dangles : Bool) (fault : TreeFault) → rank_of fault < 7 → test dangles fault ≡ true → HasFault p i pairs fault
  has_low dangles NoNet l e = absurd (both_ways false refl e)
  has_low dangles WrongSource l e = e
  has_low dangles NoSwitch l e = e
  has_low dangles NodeTwice l e = e
  has_low dangles SecondOutput l e = e
  has_low dangles ForeignSink l e = e
  has_low dangles Dangling l e = absurd (omega arith)
  has_low dangles MissingSink l e = absurd (omega arith)
  has_low dangles Order l e = absurd (omega arith)

  lacks_low : (dangles : Bool) (fault : TreeFault) → rank_of fault < 7 → test dangles fault ≡ false → ¬ HasFault p i pairs fault
  lacks_low dangles NoNet l e = λ h. omega (arith, h, there)
  lacks_low dangles WrongSource l e = both_ways (begins_elsewhere n.source pairs) e
  lacks_low dangles NoSwitch l e = both_ways (lacks_switch p.device pairs) e
  lacks_low dangles NodeTwice l e = both_ways (reaches_twice n.source pairs) e
  lacks_low dangles SecondOutput l e = both_ways (leaves_twice n.source pairs) e
  lacks_low dangles ForeignSink l e = both_ways (has_foreign_sink p.device n.sinks pairs) e
  lacks_low dangles Dangling l e = absurd (omega arith)
  lacks_low dangles MissingSink l e = absurd (omega arith)
  lacks_low dangles Order l e = absurd (omega arith)

  -- the joined pairs do not depend on the net's number
  joined_of : All (IsJoined (net_of n.source n.sinks) pairs) pairs → All (IsJoined n pairs) pairs
  joined_of = All-weaker (IsJoined (net_of n.source n.sinks) pairs) (IsJoined n pairs)
      (λ q j. record { from_source = j.from_source; to_sink = j.to_sink }) pairs

  of_joined : All (IsJoined n pairs) pairs → All (IsJoined (net_of n.source n.sinks) pairs) pairs
  of_joined = All-weaker (IsJoined n pairs) (IsJoined (net_of n.source n.sinks) pairs)
      (λ q j. record { from_source = j.from_source; to_sink = j.to_sink }) pairs

  same_order : is_listed p.device n pairs ≡ is_listed p.device (net_of n.source n.sinks) pairs
  unfolding is_listed
  same_order = refl

  -- of all
  module _ (dangles : Bool) (tells : TellsDangling dangles n.source n.sinks pairs) where
    has : (fault : TreeFault) → test dangles fault ≡ true → HasFault p i pairs fault
    has NoNet e = absurd (both_ways false refl e)
    has WrongSource e = e
    has NoSwitch e = e
    has NodeTwice e = e
    has SecondOutput e = e
    has ForeignSink e = e
    has Dangling e = λ joined. MatchBool-at_true {b = dangles} (Dangles n.source n.sinks pairs) _ e tells (of_joined joined)
    has MissingSink e = e
    has Order e = same_order ∙ not-true (is_listed p.device (net_of n.source n.sinks) pairs) e

    lacks : (fault : TreeFault) → test dangles fault ≡ false → ¬ HasFault p i pairs fault
    lacks NoNet e = λ h. omega (arith, h, there)
    lacks WrongSource e = both_ways (begins_elsewhere n.source pairs) e
    lacks NoSwitch e = both_ways (lacks_switch p.device pairs) e
    lacks NodeTwice e = both_ways (reaches_twice n.source pairs) e
    lacks SecondOutput e = both_ways (leaves_twice n.source pairs) e
    lacks ForeignSink e = both_ways (has_foreign_sink p.device n.sinks pairs) e
    lacks Dangling e = λ h. h (joined_of (MatchBool-at_false {b = dangles} (Dangles n.source n.sinks pairs) _ e tells))
    lacks MissingSink e = both_ways (misses_sink n.sinks pairs) e
    lacks Order e = λ h.
        both_ways (is_listed p.device n pairs) h (same_order ∙ not-false (is_listed p.device (net_of n.source n.sinks) pairs) e)

    route : IsProblem p → ((fault : TreeFault) → test dangles fault ≡ false) → IsRoute p i pairs
    route keeps fails =
        let net = All-get_or (IsNet p.device) p.nets i no_net there keeps.nets in
        record {
          net = there;
          legal = record {
            switches = all_edges p.device pairs (fails NoSwitch);
            once = fails NodeTwice;
            one_output = one_leaves n.source pairs (fails WrongSource) (fails SecondOutput);
            sinks = exact_sinks p.device n.sinks pairs net.sinks (fails ForeignSink) (fails MissingSink);
            joined = joined_of (MatchBool-at_false {b = dangles} (Dangles n.source n.sinks pairs) _ (fails Dangling) tells);
          };
          listed = same_order ∙ not-false (is_listed p.device (net_of n.source n.sinks) pairs) (fails Order);
        }

    late : IsProblem p → (answer : Option TreeFault) → find (test dangles) all_faults ≡ answer → Judges p i pairs answer
    late keeps None e = route keeps (none_found (test dangles) e)
    late keeps (Some fault) e =
        let first = first_found (test dangles) fault e in
        record { there = has fault first.passes; none_before = λ other l. lacks other (first.fails_before other l) }

  early : (fault : TreeFault) → find (test false) all_faults ≡ Some fault → rank_of fault < 7 → Judges p i pairs (Some fault)
  early fault e l =
      let first = first_found (test false) fault e in
      record {
        there = has_low false fault l first.passes;
        none_before = λ other m. lacks_low false other (omega (arith, l, m)) (first.fails_before other m);
      }

  -- the answer by the tests is the answer
  judged_by : IsProblem p → (answer seen : Option TreeFault) → early_fault_of p.device n.source n.sinks pairs ≡ seen →
      MatchOption seen (IsReportedLate p.device n.source n.sinks pairs answer) (λ fault. answer ≡ Some fault) → Judges p i pairs answer
  judged_by keeps answer (Some fault) e reported =
      let found = sym (by_tests p.device n.source n.sinks pairs false) ∙ ap (λ x. or_else x (late_fault_of false (is_listed p.device (net_of n.source n.sinks) pairs) n.sinks pairs)) e in
      subst (Judges p i pairs) (sym reported) (early fault found (early_low p.device n.source n.sinks pairs fault e))
  judged_by keeps answer None e reported =
      let found = sym (by_tests p.device n.source n.sinks pairs reported.0) ∙ ap (λ x. or_else x (late_fault_of reported.0 (is_listed p.device (net_of n.source n.sinks) pairs) n.sinks pairs)) e
      ∙ sym reported.2 in
      late reported.0 reported.1 keeps answer found

  pub judged : IsProblem p → (f : Fabric) (source : ℕ) (sinks : List ℕ) → f ≡ p.device → source ≡ n.source → sinks ≡ n.sinks → (answer : Option TreeFault) →
      IsReportedBy f source sinks pairs answer → Judges p i pairs answer
  judged keeps f source sinks a b c answer reported =
      judged_by keeps answer (early_fault_of p.device n.source n.sinks pairs) refl
      (subst (λ g. IsReportedBy g n.source n.sinks pairs answer) a (subst (λ s. IsReportedBy f s n.sinks pairs answer) b
      (subst (λ s. IsReportedBy f source s pairs answer) c reported)))
