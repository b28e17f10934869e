-- The answer for a routing from the answers for its nets and its nodes.
use Rattle.std.proofs.Common.{◌≡◌, ℕ, ◌-◌, ◌<◌, ◌⊎◌, zero, suc, List, [], ◌∷◌, length, get_or, map, Option, Some, None, Result, Ok, Err, IfOk, inl, inr, refl, sym, ap, ap₂, ◌∙◌, subst, arith}
use Rattle.std.specs.Prelude.{MatchResult}
use Rattle.std.specs.List.{AllZip, range_with_len}
use Rattle.std.specs.declared.alloc.AllocError.{AllocError}
use Rattle.std.proofs.lemmas.List.{get_or-map, length-map, take_all}
use Rattle.std.proofs.lemmas.List.FromFn.{get_or-range_with_len, length-range_with_len}
use Rattle.routing_problem.specs.Problems.{RoutingProblem}
use Rattle.routing_problem.specs.Nodes.{node_at}
use Rattle.route_tree.specs.Usage.{overuse_of, use_of, room_of, Lists}
use Rattle.route_check.specs.declared.fault.RouteFault.{RouteFault}
use Rattle.route_check.specs.declared.fault.RouteFault.TheVariants.{Length, Unrouted, Tree, Overused}
use Rattle.route_check.specs.Routed.{IsNetRouted}
use Rattle.route_check.specs.Faults.{HasRouteFault, stage_of, place_of, IsFirstRouteFault}
use Rattle.route_check.specs.Nets.{AreJudged, JudgesNet}
use Rattle.route_check.specs.kept.Counted.{AreUses, excess_of}
use Rattle.route_check.specs.kept.Answers.{IsFirstOf, TellsExcess, JudgesRouting}
use Rattle.route_check.proofs.RoutingFaults.{net_sound}

zipped_at : {A B : Type 0} (R : A → B → Type 0) (xs : List A) (ys : List B) (i : ℕ) (d : A) (e : B) → AllZip R xs ys → i < length xs →
    R (get_or xs i d) (get_or ys i e)
zipped_at R [] ys i d e zip l = absurd (omega arith)
zipped_at R (x ∷ xs) [] i d e zip l = absurd zip
zipped_at R (x ∷ xs) (y ∷ ys) zero d e zip l = zip.0
zipped_at R (x ∷ xs) (y ∷ ys) (suc i) d e zip l = zipped_at R xs ys i d e zip.1 (omega arith)

zipped_length : {A B : Type 0} (R : A → B → Type 0) (xs : List A) (ys : List B) → AllZip R xs ys → length xs ≡ length ys
zipped_length R [] [] zip = refl
zipped_length R [] (y ∷ ys) zip = absurd zip
zipped_length R (x ∷ xs) [] zip = absurd zip
zipped_length R (x ∷ xs) (y ∷ ys) zip = ap suc (zipped_length R xs ys zip.1)

module _ (p : RoutingProblem) (lists : Lists) where
  -- ---- answers that were collected, none of them a refusal
  abbrev pub AnswersNet : ℕ → Result (Option RouteFault) AllocError → Type 0
  AnswersNet net r = IfOk r (JudgesNet p lists net)

  collected : (n : ℕ) → n ≡ length p.nets → (rs : List (Result (Option RouteFault) AllocError)) → AllZip AnswersNet (range_with_len 0 n) rs →
      (ys : List (Option RouteFault)) → rs ≡ map Ok ys → AreJudged p lists ys
  collected n all rs zip ys e =
      let size : length ys ≡ n = sym (length-map ys Ok) ∙ sym (ap length e) ∙ sym (zipped_length AnswersNet (range_with_len 0 n) rs zip)
      ∙ length-range_with_len 0 n in
      record {
        size = size ∙ all;
        each = λ i l.
            let within : i < n = omega (arith, all, l) in
            let there = zipped_at AnswersNet (range_with_len 0 n) rs i 0 (Ok None) zip (omega (arith, within, length-range_with_len 0 n)) in
            let net : get_or (range_with_len 0 n) i 0 ≡ i = get_or-range_with_len 0 n i 0 within ∙ omega arith in
            let answer : get_or rs i (Ok None) ≡ Ok (get_or ys i None) =
            ap (λ r. get_or r i (Ok None)) e ∙ get_or-map Ok ys i None (Ok None) (omega (arith, within, size)) in
            subst (AnswersNet i) answer (subst (λ k. AnswersNet k (get_or rs i (Ok None))) net there);
      }

  abbrev pub Gathered : (rs : List (Result (Option RouteFault) AllocError)) → (items : List (Option RouteFault)) → Type 0
  Gathered rs items = (ys : List (Option RouteFault)) × (rs ≡ map Ok ys) × (items ≡ ys)

  pub gathered : (n : ℕ) → n ≡ length p.nets → (rs : List (Result (Option RouteFault) AllocError)) → AllZip AnswersNet (range_with_len 0 n) rs →
      (items : List (Option RouteFault)) → Gathered rs items → AreJudged p lists items
  gathered n all rs zip items is = subst (AreJudged p lists) (sym is.2) (collected n all rs zip is.0 is.1)

  module _ (one_each : length lists ≡ length p.nets) where
    -- ---- a fault of a net
    module _ (answers : List (Option RouteFault)) (judged : AreJudged p lists answers) where
      routed_at : (i : ℕ) → i < length p.nets → get_or answers i None ≡ None → IsNetRouted p lists i
      routed_at i l e = subst (JudgesNet p lists i) e (judged.each i l)

      pub all_routed : IsFirstOf answers None → (i : ℕ) → i < length p.nets → IsNetRouted p lists i
      all_routed none i l = routed_at i l (none i (let size = judged.size in omega (arith, size, l)))

      none_at : (i : ℕ) → ((j : ℕ) → j < i → IsNetRouted p lists j) → (other : RouteFault) →
          stage_of other < 2 ⊎ ((stage_of other ≡ 2) × (place_of other < i)) →
          ¬ HasRouteFault p lists other
      none_at i before Length low h = h one_each
      none_at i before (Unrouted net) (inl low) h = omega (arith, low)
      none_at i before (Unrouted net) (inr low) h = net_sound p lists net (before net low.1) (Unrouted net) refl refl h
      none_at i before (Tree net fault) (inl low) h = omega (arith, low)
      none_at i before (Tree net fault) (inr low) h = net_sound p lists net (before net low.1) (Tree net fault) refl refl h
      none_at i before (Overused node by) (inl low) h = omega (arith, low)
      none_at i before (Overused node by) (inr low) h = let stage = low.0 in omega (arith, stage)

      pub first_fault : (fault : RouteFault) → IsFirstOf answers (Some fault) → IsFirstRouteFault p lists fault
      first_fault fault first =
          let size = judged.size in
          let within : first.place < length p.nets = let l = first.within in omega (arith, l, size) in
          let is = subst (JudgesNet p lists first.place) first.there (judged.each first.place within) in
          record {
            there = is.there;
            none_before = λ other low.
                none_at first.place (λ j l. routed_at j (omega (arith, l, within)) (first.before j l)) other
                (elim low [
                  | inl stage ↦ inl (let s = is.stage in omega (arith, stage, s))
                  | inr both ↦ inr (both.0 ∙ is.stage, (let l = both.1 in let s = is.place in omega (arith, l, s)))
                ]);
          }

    -- ---- a node that is used too often, where all nets are routed
    module _ (routed : (i : ℕ) → i < length p.nets → IsNetRouted p lists i) (counts : List ℕ) (uses : AreUses p lists (length p.nets) counts) where
      same_excess : (a : ℕ) → excess_of p.device counts a ≡ overuse_of p lists a
      unfolding overuse_of
      same_excess a =
          ap (λ k. k - room_of p.device (node_at p.device a))
          (uses.each a
          ∙ ap₂ (λ ns ls. use_of ns ls a) (take_all (length p.nets) p.nets (omega arith)) (take_all (length p.nets) lists (omega (arith, one_each))))

      none_under : (node : ℕ) → ((a : ℕ) → a < node → excess_of p.device counts a ≡ 0) → (other : RouteFault) →
          stage_of other < 3 ⊎ ((stage_of other ≡ 3) × (place_of other < node)) → ¬ HasRouteFault p lists other
      none_under node before Length low h = h one_each
      none_under node before (Unrouted net) low h = net_sound p lists net (routed net h.0) (Unrouted net) refl refl h
      none_under node before (Tree net fault) low h = net_sound p lists net (routed net h.0) (Tree net fault) refl refl h
      none_under node before (Overused a by) (inl low) h = omega (arith, low)
      none_under node before (Overused a by) (inr low) h =
          let none = before a low.1 in
          let same = same_excess a in
          let is = h.0 in
          let some = h.1 in
          omega (arith, none, same, is, some)

      pub judged_by_use : (answer : Option RouteFault) → TellsExcess p.device counts answer → JudgesRouting p lists answer
      judged_by_use None none = record { one_each = one_each; routed = routed; within = λ a. sym (same_excess a) ∙ none a }
      judged_by_use (Some fault) least =
          subst (IsFirstRouteFault p lists) (sym least.is)
          (record {
            there = (sym (same_excess least.node) ∙ least.excess, least.some);
            none_before = λ other low. none_under least.node least.before other low;
          })

-- what holds of what a result has where it is one
pub kept_ok : {X E : Type 0} (r : Result X E) (A P : X → Type 0) (B : E → Type 0) → ((x : X) → A x → P x) → MatchResult r A B → IfOk r P
kept_ok (Ok x) A P B h is = h x is
kept_ok (Err e) A P B h is = tt
