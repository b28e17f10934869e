-- The indexes of nets' lists, one after the other.
use Rattle.std.proofs.Common.{◌≡◌, ℕ, ◌+◌, true, List, [], ◌∷◌, ◌++◌, length, get_or, Option, None, inl, inr, sym, ap, subst, ◌∙◌, arith}
use Rattle.std.specs.Prelude.{is_some}
use Rattle.std.proofs.lemmas.Bool.{cases_lt}
use Rattle.std.proofs.lemmas.List.{get_or_append_left, get_or_push, length_push}
use Rattle.rr_graph.specs.Problems.{RoutingProblem}
use Rattle.route_tree.specs.Usage.{Lists}
use Rattle.route_check.specs.declared.fault.RouteFault.{RouteFault}
use Rattle.route_explain.specs.declared.index.NetIndex.{NetIndex}
use Rattle.route_explain.specs.kept.Findings.{AreIndexes, IsIndexOf}

module _ (p : RoutingProblem) (lists : Lists) (faults : List (Option RouteFault)) where
  pub one_indexed : (k : ℕ) (old new : List NetIndex) (x : NetIndex) → new ≡ old ++ x ∷ [] → (is_some (get_or faults k None) ≡ true → IsIndexOf p lists k x)
      → AreIndexes p lists faults k old → AreIndexes p lists faults (k + 1) new
  one_indexed k old new x more is h =
      let size = h.count in
      let long : length new ≡ k + 1 = ap length more ∙ length_push old x ∙ omega (arith, size) in
      record {
        count = long;
        each = λ i d l faulty. elim (cases_lt i k) [
          | inl before ↦
              subst (IsIndexOf p lists i) (sym (ap (λ xs. get_or xs i d) more ∙ get_or_append_left old (x ∷ []) d i (omega (arith, before, size)))) (h.each i d before faulty)
          | inr from ↦ (
              let last : i ≡ length old = omega (arith, from, l, size) in
              let same : i ≡ k = omega (arith, last, size) in
              subst (IsIndexOf p lists i) (sym (ap (λ xs. get_or xs i d) more ∙ get_or_push old x d i (sym last)))
              (subst (λ j. IsIndexOf p lists j x) (sym same) (is (subst (λ j. is_some (get_or faults j None) ≡ true) same faulty))))
        ];
      }
