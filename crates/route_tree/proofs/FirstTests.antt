-- The first test that pairs fail, in the order of the faults.
use Rattle.std.proofs.Common.{◌≡◌, ℕ, ◌+◌, ◌-◌, ◌<◌, ◌≤◌, Bool, true, false, List, [], ◌∷◌, length, get_or, Option, Some, None, inl, inr, refl, sym, ap, ◌∙◌, subst, arith}
use Rattle.std.specs.Prelude.{nat_le}
use Rattle.std.specs.List.{find, position_or_len, slice_get}
use Rattle.std.proofs.lemmas.Bool.{both_ways, cases_lt}
use Rattle.std.proofs.lemmas.List.{get_or-map}
use Rattle.std.proofs.lemmas.List.Folds.{find_at}
use Rattle.std.proofs.lemmas.List.FromFn.{get_or-range_with_len}
use Rattle.std.proofs.lemmas.List.Sums.{fails_before_first, passes_at_first}
use Rattle.std.proofs.lemmas.Option.{get_or_from_slice_get, slice_get-get_or, slice_get_within}
use Rattle.routing_problem.specs.Problems.{RoutingProblem, net_in}
use Rattle.route_tree.specs.declared.fault.TreeFault.{TreeFault}
use Rattle.route_tree.specs.declared.fault.TreeFault.TheVariants.{NoNet, WrongSource, NoSwitch, NodeTwice, SecondOutput, ForeignSink, Dangling, MissingSink, Order}
use Rattle.route_tree.specs.Paths.{Pair}
use Rattle.route_tree.specs.Faults.{begins_elsewhere, lacks_switch, reaches_twice, leaves_twice, has_foreign_sink, misses_sink, rank_of}
use Rattle.route_tree.specs.kept.Ladder.{has_dead_end, breaks_off, fault_of}

-- ---- the faults by rank
abbrev pub all_faults : List TreeFault
all_faults = NoNet ∷ WrongSource ∷ NoSwitch ∷ NodeTwice ∷ SecondOutput ∷ ForeignSink ∷ Dangling ∷ MissingSink ∷ Order ∷ []

at_rank : (fault : TreeFault) → get_or all_faults (rank_of fault - 1) NoNet ≡ fault
at_rank NoNet = refl
at_rank WrongSource = refl
at_rank NoSwitch = refl
at_rank NodeTwice = refl
at_rank SecondOutput = refl
at_rank ForeignSink = refl
at_rank Dangling = refl
at_rank MissingSink = refl
at_rank Order = refl

rank_at : (k : ℕ) → k < 9 → rank_of (get_or all_faults k NoNet) ≡ 1 + k
rank_at k l = sym (get_or-map rank_of all_faults k NoNet 0 l) ∙ get_or-range_with_len 1 9 k 0 l

rank_bounds : (fault : TreeFault) → (1 ≤ rank_of fault) × (rank_of fault ≤ 9)
rank_bounds NoNet = omega arith
rank_bounds _ = omega arith

pub same_rank : (a b : TreeFault) → rank_of a ≡ rank_of b → a ≡ b
same_rank a b e = sym (at_rank a) ∙ ap (λ r. get_or all_faults (r - 1) NoNet) e ∙ at_rank b

-- ---- the first that passes a test
-- the fault passes, and none before it
pub record IsFirstTest (test : TreeFault → Bool) (fault : TreeFault) : Type 0 where
  pub passes : test fault ≡ true
  pub fails_before : (other : TreeFault) → rank_of other < rank_of fault → test other ≡ false

module _ (test : TreeFault → Bool) where
  fails_below : (i : ℕ) → i ≤ position_or_len test all_faults → (other : TreeFault) → rank_of other < 1 + i → test other ≡ false
  fails_below i low other l =
      let bounds = rank_bounds other in
      subst (λ e. test e ≡ false) (at_rank other) (fails_before_first test all_faults (rank_of other - 1) NoNet (omega arith))

  pub first_found : (fault : TreeFault) → find test all_faults ≡ Some fault → IsFirstTest test fault
  first_found fault e =
      let i = position_or_len test all_faults in
      let there : slice_get all_faults i ≡ Some fault = sym (find_at test all_faults) ∙ e in
      let within : i < 9 = slice_get_within all_faults i fault there in
      let same : get_or all_faults i NoNet ≡ fault = get_or_from_slice_get all_faults i fault NoNet there in
      let rank : rank_of fault ≡ 1 + i = ap rank_of (sym same) ∙ rank_at i within in
      record {
        passes = subst (λ x. test x ≡ true) same (passes_at_first test all_faults NoNet within);
        fails_before = λ other l. fails_below i (omega arith) other (omega (arith, l, rank));
      }

  pub none_found : find test all_faults ≡ None → (fault : TreeFault) → test fault ≡ false
  none_found e fault =
      let i = position_or_len test all_faults in
      elim (cases_lt i 9) [
        | inl l ↦ absurd (let there = slice_get-get_or all_faults i NoNet l in let at = find_at test all_faults in cc)
        | inr l ↦ fails_below 9 l fault (let bounds = rank_bounds fault in omega arith)
      ]

  none_of : (answer : Option TreeFault) → find test all_faults ≡ answer → ((fault : TreeFault) → test fault ≡ false) → answer ≡ None
  none_of None e fails = refl
  none_of (Some fault) e fails = absurd (both_ways (test fault) (fails fault) (first_found fault e).passes)

  pub none_from : ((fault : TreeFault) → test fault ≡ false) → find test all_faults ≡ None
  none_from fails = none_of (find test all_faults) refl fails

-- ---- the tests of pairs
abbrev pub test_of : RoutingProblem → ℕ → List Pair → TreeFault → Bool
test_of p i pairs NoNet = nat_le (length p.nets) i
test_of p i pairs WrongSource = begins_elsewhere (net_in p.nets i).source pairs
test_of p i pairs NoSwitch = lacks_switch p.device pairs
test_of p i pairs NodeTwice = reaches_twice (net_in p.nets i).source pairs
test_of p i pairs SecondOutput = leaves_twice (net_in p.nets i).source pairs
test_of p i pairs ForeignSink = has_foreign_sink p.device (net_in p.nets i).sinks pairs
test_of p i pairs Dangling = has_dead_end (net_in p.nets i).sinks pairs
test_of p i pairs MissingSink = misses_sink (net_in p.nets i).sinks pairs
test_of p i pairs Order = breaks_off p.device pairs

pub by_tests : (p : RoutingProblem) (i : ℕ) (pairs : List Pair) → fault_of p i pairs ≡ find (test_of p i pairs) all_faults
unfolding fault_of
by_tests p i pairs = refl
