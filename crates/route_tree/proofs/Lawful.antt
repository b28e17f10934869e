-- The tests tell exactly which pairs of a tree route a net, and which fault is the first.
use Rattle.std.proofs.Common.{◌≡◌, ℕ, ◌<◌, ◌↔◌, Bool, true, false, not, List, length, Option, Some, None, All, inl, inr, refl, sym, ap, ◌∙◌, arith}
use Rattle.std.specs.List.{find}
use Rattle.std.proofs.lemmas.Bool.{both_ways, cases_order, false_from_ne_true, le-leb, leb-false, leb-true, lt-leb, not-false, not-true, not_from_false, not_from_true, true_from_ne_false}
use Rattle.std.proofs.lemmas.List.Elements.{All-get_or}
use Rattle.routing_problem.specs.Problems.{Net, RoutingProblem, IsNet, IsProblem, no_net, net_in}
use Rattle.route_tree.specs.declared.fault.TreeFault.{TreeFault}
use Rattle.route_tree.specs.declared.fault.TreeFault.TheVariants.{NoNet, WrongSource, NoSwitch, NodeTwice, SecondOutput, ForeignSink, Dangling, MissingSink, Order}
use Rattle.route_tree.specs.Paths.{Pair}
use Rattle.route_tree.specs.Legality.{IsJoined, is_listed}
use Rattle.route_tree.specs.Faults.{begins_elsewhere, reaches_twice, rank_of, HasFault, IsFirstFault, IsRoute}
use Rattle.route_tree.specs.kept.Ladder.{HangOnEarlier, has_dead_end, breaks_off, fault_of}
use Rattle.route_tree.proofs.Clauses.{all_edges, no_lack, one_leaves, not_twice, begins_there, exact_sinks, none_foreign, none_missed}
use Rattle.route_tree.proofs.Joined.{all_joined, not_all_joined}
use Rattle.route_tree.proofs.FirstTests.{IsFirstTest, all_faults, test_of, by_tests, first_found, none_found, none_from, same_rank}
use Rattle.route_tree.proofs.Listings.{listed}

module _ (p : RoutingProblem) (keeps : IsProblem p) (i : ℕ) (pairs : List Pair) (hang : begins_elsewhere (net_in p.nets i).source pairs ≡ false → HangOnEarlier (net_in p.nets i).source pairs) where
  abbrev n : Net
  n = net_in p.nets i

  abbrev test : TreeFault → Bool
  test = test_of p i pairs

  -- no fault of a lower rank passes its test
  abbrev NoneBefore : TreeFault → Type 0
  NoneBefore fault = (other : TreeFault) → rank_of other < rank_of fault → test other ≡ false

  -- ---- a fault is there exactly where its test passes, if no test before it does
  no_dead_end : begins_elsewhere n.source pairs ≡ false → reaches_twice n.source pairs ≡ false → All (IsJoined n pairs) pairs →
      has_dead_end n.sinks pairs ≡ false
  no_dead_end first once joined =
      false_from_ne_true (has_dead_end n.sinks pairs) (λ e. not_all_joined n pairs (hang first) once e joined)

  dead_end : begins_elsewhere n.source pairs ≡ false → (All (IsJoined n pairs) pairs → ⊥) → has_dead_end n.sinks pairs ≡ true
  dead_end first apart = true_from_ne_false (has_dead_end n.sinks pairs) (λ e. apart (all_joined n pairs (hang first) e))

  order : begins_elsewhere n.source pairs ≡ false → is_listed p.device n pairs ≡ not (breaks_off p.device pairs)
  order first = listed p.device n pairs first (hang first)

  passes : (fault : TreeFault) → NoneBefore fault → HasFault p i pairs fault → test fault ≡ true
  passes NoNet none h = le-leb (length p.nets) i h
  passes WrongSource none h = h
  passes NoSwitch none h = h
  passes NodeTwice none h = h
  passes SecondOutput none h = h
  passes ForeignSink none h = h
  passes Dangling none h = dead_end (none WrongSource (omega arith)) h
  passes MissingSink none h = h
  passes Order none h = not-false (breaks_off p.device pairs) (sym (order (none WrongSource (omega arith))) ∙ h)

  has : (fault : TreeFault) → NoneBefore fault → test fault ≡ true → HasFault p i pairs fault
  has NoNet none e = leb-true (length p.nets) i e
  has WrongSource none e = e
  has NoSwitch none e = e
  has NodeTwice none e = e
  has SecondOutput none e = e
  has ForeignSink none e = e
  has Dangling none e = not_all_joined n pairs (hang (none WrongSource (omega arith))) (none NodeTwice (omega arith)) e
  has MissingSink none e = e
  has Order none e = order (none WrongSource (omega arith)) ∙ not_from_true (breaks_off p.device pairs) e

  -- ---- without a fault
  route : ((fault : TreeFault) → test fault ≡ false) → IsRoute p i pairs
  route fails =
      let there : i < length p.nets = leb-false (length p.nets) i (fails NoNet) in
      let first = fails WrongSource in
      let net = All-get_or (IsNet p.device) p.nets i no_net there keeps.nets in
      record {
        net = there;
        legal = record {
          switches = all_edges p.device pairs (fails NoSwitch);
          once = fails NodeTwice;
          one_output = one_leaves n.source pairs first (fails SecondOutput);
          sinks = exact_sinks p.device n.sinks pairs net.sinks (fails ForeignSink) (fails MissingSink);
          joined = all_joined n pairs (hang first) (fails Dangling);
        };
        listed = order first ∙ not_from_false (breaks_off p.device pairs) (fails Order);
      }

  fails_all : IsRoute p i pairs → (fault : TreeFault) → test fault ≡ false
  fails_all r NoNet = lt-leb (length p.nets) i r.net
  fails_all r WrongSource = begins_there p.device n pairs r.legal.one_output r.listed
  fails_all r NoSwitch = no_lack p.device pairs r.legal.switches
  fails_all r NodeTwice = r.legal.once
  fails_all r SecondOutput = not_twice n.source pairs r.legal.one_output
  fails_all r ForeignSink = none_foreign p.device n.sinks pairs r.legal.sinks
  fails_all r Dangling = no_dead_end (begins_there p.device n pairs r.legal.one_output r.listed) r.legal.once r.legal.joined
  fails_all r MissingSink = none_missed p.device n.sinks pairs r.legal.sinks
  fails_all r Order = not-true (breaks_off p.device pairs) (sym (order (begins_there p.device n pairs r.legal.one_output r.listed)) ∙ r.listed)

  pub routes : fault_of p i pairs ≡ None ↔ IsRoute p i pairs
  routes = (λ e. route (none_found test (sym (by_tests p i pairs) ∙ e)), λ r. by_tests p i pairs ∙ none_from test (fails_all r))

  -- ---- the first fault
  first : (fault : TreeFault) → IsFirstTest test fault → IsFirstFault p i pairs fault
  first fault t = record {
    there = has fault t.fails_before t.passes;
    none_before = λ other low h.
        both_ways (test other) (t.fails_before other low) (passes other (λ lower l. t.fails_before lower (omega arith)) h);
  }

  same_first : (a b : TreeFault) → IsFirstFault p i pairs a → IsFirstFault p i pairs b → a ≡ b
  same_first a b f g = elim (cases_order (rank_of a) (rank_of b)) [
    | inl e ↦ same_rank a b e
    | inr (inl l) ↦ absurd (g.none_before a l f.there)
    | inr (inr l) ↦ absurd (f.none_before b l g.there)
  ]

  answer : (fault : TreeFault) (found : Option TreeFault) → find test all_faults ≡ found → IsFirstFault p i pairs fault → found ≡ Some fault
  answer fault None e h =
      let fails = none_found test e in
      absurd (both_ways (test fault) (fails fault) (passes fault (λ other l. fails other) h.there))
  answer fault (Some other) e h = ap Some (same_first other fault (first other (first_found test other e)) h)

  pub faults : (fault : TreeFault) → fault_of p i pairs ≡ Some fault ↔ IsFirstFault p i pairs fault
  faults fault = (
    λ e. first fault (first_found test fault (sym (by_tests p i pairs) ∙ e)),
    λ h. by_tests p i pairs ∙ answer fault (find test all_faults) refl h,
  )
