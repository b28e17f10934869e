-- Walks from each of the sinks: what none of them met is on no way to a sink.
use Rattle.std.proofs.Common.{◌≡◌, ℕ, ◌<◌, ◌⊎◌, ◌==◌, Bool, true, false, List, length, get_or, All, inl, inr, refl, sym, ap, ◌∙◌, subst, arith}
use Rattle.std.specs.Prelude.{Contains}
use Rattle.std.specs.List.{list_any}
use Rattle.std.proofs.lemmas.Bool.{both_ways, eq-eqb, eqb-true}
use Rattle.std.proofs.lemmas.List.Elements.{All-get_or, All-from_get_or, at_from_Contains}
use Rattle.std.proofs.lemmas.List.Folds.{list_any_at}
use Rattle.route_tree.specs.Paths.{Pair, Path, ends_of}
use Rattle.route_tree.specs.Paths.Path.{here, along}
use Rattle.route_tree.specs.Legality.{is_among, IsJoined}
use Rattle.route_tree.specs.Faults.{reaches_twice}
use Rattle.route_tree.proofs.Members.{contains_among, end_among, some_place}
use Rattle.route_check.specs.kept.Ends.{begin_in, end_in}
use Rattle.route_check.specs.kept.Judged.{net_of, Dangles, TellsDangling}
use Rattle.route_check.specs.kept.Walks.{IsMet, HasMetParent, AreWalked, AreAllMet, IsWalkedFrom, AreAllWalked}
use Rattle.route_check.proofs.Once.{not_source, same_row}

module _ (source : ℕ) (sinks : List ℕ) (pairs : List Pair) where
  -- ---- a sink at which no pair ends
  pub walked_past : (walk a : ℕ) (walks : List ℕ) → AreWalked source sinks pairs walk walks → is_among (ends_of pairs) a ≡ false →
      IsWalkedFrom source sinks pairs walk a walks walks
  walked_past walk a walks before none = record {
    walked = record { each = before.each; earlier = λ k. let l = before.earlier k in omega (arith, l); met = before.met };
    left = λ k l same. absurd (both_ways (is_among (ends_of pairs) a) none (contains_among (ends_of pairs) a
        (subst (Contains (ends_of pairs)) same (end_among pairs k l))));
    kept = λ k met. met;
  }

  -- ---- one more walk
  abbrev pub AreLeft : ℕ → List ℕ → Type 0
  AreLeft i walks = (j : ℕ) → j < i → AreAllMet pairs walks (get_or sinks j 0)

  -- ---- after all walks
  module _ (once : reaches_twice source pairs ≡ false) (walks : List ℕ) (walked : AreAllWalked source sinks pairs walks) where
    parent_met : (i a k : ℕ) → begin_in pairs i ≡ a → k < length pairs → end_in pairs k ≡ a → (source ≡ begin_in pairs i) ⊎ HasMetParent pairs walks i →
        IsMet walks k
    parent_met i a k begin l same (inl root) = absurd (not_source source pairs once k l (same ∙ sym begin ∙ sym root))
    parent_met i a k begin l same (inr p) = subst (IsMet walks) (same_row source pairs once p.0 k p.1 l (p.2 ∙ begin ∙ sym same)) p.3

    left_back : (a b : ℕ) → Path pairs a b → AreAllMet pairs walks b → AreAllMet pairs walks a
    left_back a b (here _) left = left
    left_back a b (along _ c _ h way) left = λ k l same.
        let found = at_from_Contains pairs (a, c) h in
        let at = found.2 (0, 0) in
        let met = left_back c b way left found.0 found.1 (ap (λ (p : Pair). p.1) at) in
        parent_met found.0 a k (ap (λ (p : Pair). p.0) at) l same (walked.met found.0 found.1 met).behind

    unmet : (k : ℕ) → k < length pairs → get_or walks k 0 ≡ 0 → Dangles source sinks pairs
    unmet k l none = λ joined.
        let way = (All-get_or (IsJoined (net_of source sinks) pairs) pairs k (0, 0) l joined).to_sink in
        left_back (end_in pairs k) way.0 way.2 (walked.left way.0 way.1) k l refl none

    all_met : ((k : ℕ) → k < length pairs → IsMet walks k) → All (IsJoined (net_of source sinks) pairs) pairs
    all_met met =
        All-from_get_or (IsJoined (net_of source sinks) pairs) pairs (0, 0)
        (λ k l. let way = walked.met k l (met k l) in record { from_source = way.reached; to_sink = way.leads })

    pub reported : (t : Bool) → list_any (λ w. w == 0) walks ≡ t → TellsDangling t source sinks pairs
    reported true e =
        let found = some_place (λ w. w == 0) walks 0 e in
        let size = walked.each in
        let l = found.1 in
        unmet found.0 (omega (arith, size, l)) (eqb-true (get_or walks found.0 0) 0 found.2)
    reported false e =
        all_met (λ k l none.
        let size = walked.each in
        both_ways (list_any (λ w. w == 0) walks) e (list_any_at (λ w. w == 0) walks k 0 (omega (arith, size, l)) (eq-eqb (get_or walks k 0) 0 none)))
