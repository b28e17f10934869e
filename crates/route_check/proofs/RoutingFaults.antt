-- A routing has a fault or routes its problem, not both, and its first fault is one.
use Rattle.std.proofs.Common.{◌≡◌, ℕ, ◌↔◌, List, Option, Some, None, inl, inr, refl, sym, ap, ap₂, ◌∙◌, subst, arith}
use Rattle.std.proofs.lemmas.Bool.{both_ways, cases_order}
use Rattle.routing_problem.specs.Problems.{RoutingProblem, net_in}
use Rattle.route_tree.specs.declared.fault.TreeFault.{TreeFault}
use Rattle.route_tree.specs.declared.fault.TreeFault.TheVariants.{NoNet, WrongSource, NoSwitch, NodeTwice, SecondOutput, ForeignSink, Dangling, MissingSink, Order}
use Rattle.route_tree.specs.Paths.{Pair}
use Rattle.route_tree.specs.Legality.{is_listed}
use Rattle.route_tree.specs.Faults.{begins_elsewhere, lacks_switch, reaches_twice, leaves_twice, has_foreign_sink, misses_sink, rank_of, HasFault, IsFirstFault, IsRoute}
use Rattle.route_tree.specs.Usage.{overuse_of, Lists, list_in}
use Rattle.route_tree.proofs.Clauses.{no_lack, not_twice, begins_there, none_foreign, none_missed}
use Rattle.route_tree.proofs.FirstTests.{same_rank}
use Rattle.route_check.specs.declared.fault.RouteFault.{RouteFault}
use Rattle.route_check.specs.declared.fault.RouteFault.TheVariants.{Length, Unrouted, Tree, Overused}
use Rattle.route_check.specs.Routed.{IsNetRouted, IsRouted}
use Rattle.route_check.specs.Faults.{HasRouteFault, stage_of, place_of, IsFirstRouteFault}
use Rattle.route_check.specs.kept.Answers.{JudgesRouting}

no_list : {xs : List Pair} → None ≡ Some xs → ⊥
no_list e = cc

same_list : {xs ys : List Pair} → Some xs ≡ Some ys → xs ≡ ys
same_list e = cc

module _ (p : RoutingProblem) where
  -- ---- a list that routes its net has no fault
  pub route_sound : (i : ℕ) (pairs : List Pair) → IsRoute p i pairs → (fault : TreeFault) → ¬ HasFault p i pairs fault
  route_sound i pairs r NoNet h = let l = r.net in omega (arith, l, h)
  route_sound i pairs r WrongSource h =
      both_ways (begins_elsewhere (net_in p.nets i).source pairs) (begins_there p.device (net_in p.nets i) pairs r.legal.one_output r.listed) h
  route_sound i pairs r NoSwitch h = both_ways (lacks_switch p.device pairs) (no_lack p.device pairs r.legal.switches) h
  route_sound i pairs r NodeTwice h = both_ways (reaches_twice (net_in p.nets i).source pairs) r.legal.once h
  route_sound i pairs r SecondOutput h =
      both_ways (leaves_twice (net_in p.nets i).source pairs) (not_twice (net_in p.nets i).source pairs r.legal.one_output) h
  route_sound i pairs r ForeignSink h =
      both_ways (has_foreign_sink p.device (net_in p.nets i).sinks pairs) (none_foreign p.device (net_in p.nets i).sinks pairs r.legal.sinks) h
  route_sound i pairs r Dangling h = h r.legal.joined
  route_sound i pairs r MissingSink h =
      both_ways (misses_sink (net_in p.nets i).sinks pairs) (none_missed p.device (net_in p.nets i).sinks pairs r.legal.sinks) h
  route_sound i pairs r Order h = both_ways (is_listed p.device (net_in p.nets i) pairs) h r.listed

  -- ---- the first fault of a list is one
  same_first : (i : ℕ) (pairs : List Pair) (a b : TreeFault) → IsFirstFault p i pairs a → IsFirstFault p i pairs b → a ≡ b
  same_first i pairs a b f g = elim (cases_order (rank_of a) (rank_of b)) [
    | inl e ↦ same_rank a b e
    | inr (inl l) ↦ absurd (g.none_before a l f.there)
    | inr (inr l) ↦ absurd (f.none_before b l g.there)
  ]

  module _ (lists : Lists) where
    -- ---- a net that is routed has no fault
    pub net_sound : (i : ℕ) → IsNetRouted p lists i → (fault : RouteFault) → stage_of fault ≡ 2 → place_of fault ≡ i → ¬ HasRouteFault p lists fault
    net_sound i routed Length stage place h = omega (arith, stage)
    net_sound i routed (Unrouted net) stage place h = no_list (sym h.1 ∙ ap (list_in lists) place ∙ routed.1)
    net_sound i routed (Tree net fault) stage place h =
        let same = same_list (sym routed.1 ∙ sym (ap (list_in lists) place) ∙ h.1.1) in
        let route : IsRoute p net h.1.0 = subst (λ k. IsRoute p k h.1.0) (sym place) (subst (IsRoute p i) same routed.2) in
        route_sound net h.1.0 route fault h.1.2.there
    net_sound i routed (Overused node by) stage place h = omega (arith, stage)

    -- ---- a routing that routes has no fault
    pub sound : IsRouted p lists → (fault : RouteFault) → ¬ HasRouteFault p lists fault
    sound r Length h = h r.one_each
    sound r (Unrouted net) h = net_sound net (r.routed net h.0) (Unrouted net) refl refl h
    sound r (Tree net fault) h = net_sound net (r.routed net h.0) (Tree net fault) refl refl h
    sound r (Overused node by) h = (let none = r.within node in let is = h.0 in let some = h.1 in omega (arith, none, is, some))

    -- ---- the first fault of a routing is one
    same_place : (a b : RouteFault) → stage_of a ≡ stage_of b → place_of a ≡ place_of b → HasRouteFault p lists a → HasRouteFault p lists b → a ≡ b
    same_place Length Length stage place f g = refl
    same_place Length (Unrouted j) stage place f g = absurd (omega (arith, stage))
    same_place Length (Tree j y) stage place f g = absurd (omega (arith, stage))
    same_place Length (Overused b y) stage place f g = absurd (omega (arith, stage))
    same_place (Unrouted i) Length stage place f g = absurd (omega (arith, stage))
    same_place (Unrouted i) (Unrouted j) stage place f g = ap Unrouted place
    same_place (Unrouted i) (Tree j y) stage place f g = absurd (no_list (sym f.1 ∙ ap (list_in lists) place ∙ g.1.1))
    same_place (Unrouted i) (Overused b y) stage place f g = absurd (omega (arith, stage))
    same_place (Tree i x) Length stage place f g = absurd (omega (arith, stage))
    same_place (Tree i x) (Unrouted j) stage place f g = absurd (no_list (sym g.1 ∙ ap (list_in lists) (sym place) ∙ f.1.1))
    same_place (Tree i x) (Tree j y) stage place f g =
        let lists_same = same_list (sym f.1.1 ∙ ap (list_in lists) place ∙ g.1.1) in
        let there : IsFirstFault p j g.1.0 x = subst (λ k. IsFirstFault p k g.1.0 x) place (subst (λ ps. IsFirstFault p i ps x) lists_same f.1.2) in
        ap₂ Tree place (same_first j g.1.0 x y there g.1.2)
    same_place (Tree i x) (Overused b y) stage place f g = absurd (omega (arith, stage))
    same_place (Overused a x) Length stage place f g = absurd (omega (arith, stage))
    same_place (Overused a x) (Unrouted j) stage place f g = absurd (omega (arith, stage))
    same_place (Overused a x) (Tree j y) stage place f g = absurd (omega (arith, stage))
    same_place (Overused a x) (Overused b y) stage place f g = ap₂ Overused place (sym f.0 ∙ ap (overuse_of p lists) place ∙ g.0)

    pub same_fault : (a b : RouteFault) → IsFirstRouteFault p lists a → IsFirstRouteFault p lists b → a ≡ b
    same_fault a b f g = elim (cases_order (stage_of a) (stage_of b)) [
      | inl stage ↦ (elim (cases_order (place_of a) (place_of b)) [
        | inl place ↦ same_place a b stage place f.there g.there
        | inr (inl l) ↦ absurd (g.none_before a (inr (stage, l)) f.there)
        | inr (inr l) ↦ absurd (f.none_before b (inr (sym stage, l)) g.there)
      ])
      | inr (inl l) ↦ absurd (g.none_before a (inl l) f.there)
      | inr (inr l) ↦ absurd (f.none_before b (inl l) g.there)
    ]

    -- ---- an answer tells both
    no_fault : {x : RouteFault} → None ≡ Some x → ⊥
    no_fault e = cc

    fault_of_some : {x y : RouteFault} → Some x ≡ Some y → x ≡ y
    fault_of_some e = cc

    pub reported_routed : (answer : Option RouteFault) → JudgesRouting p lists answer → (answer ≡ None) ↔ IsRouted p lists
    reported_routed None is = (λ e. is, λ r. refl)
    reported_routed (Some fault) is = (λ e. absurd (no_fault (sym e)), λ r. absurd (sound r fault is.there))

    pub reported_first : (answer : Option RouteFault) (fault : RouteFault) → JudgesRouting p lists answer → (answer ≡ Some fault) ↔ IsFirstRouteFault p lists fault
    reported_first None fault is = (λ e. absurd (no_fault e), λ first. absurd (sound is fault first.there))
    reported_first (Some x) fault is =
        (λ e. subst (IsFirstRouteFault p lists) (fault_of_some e) is, λ first. ap Some (same_fault x fault is first))
