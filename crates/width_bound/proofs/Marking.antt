-- Marks that are set one by one tell which corners and places stand in a list.
use Rattle.std.proofs.Common.{◌≡◌, ℕ, ◌+◌, ◌<◌, ◌||◌, ◌&&◌, ◌==◌, Bool, true, false, List, length, get_or, set, take, inl, inr, sym, ap, ap₂, ◌∙◌, subst, arith}
use Rattle.std.specs.List.{list_any}
use Rattle.std.proofs.lemmas.Bool.{and_from, and_left, and_right, cases_eq, eq-eqb, ne_eqb, or_right}
use Rattle.std.proofs.lemmas.List.{length-set, get_or-set_same, get_or-set_other}
use Rattle.std.proofs.lemmas.List.Folds.{list_any_more}
use Rattle.std.proofs.Math.Bool.{or-false}
use Rattle.rr_graph.specs.node.Kind.{Kind}
use Rattle.rr_graph.specs.Nodes.{rank_of_kind}
use Rattle.rr_graph.specs.Wires.{Place}
use Rattle.rr_graph.specs.Edges.{is_same_corner}
use Rattle.width_bound.specs.Cuts.{is_same_place}
use Rattle.width_bound.specs.kept.Marks.{AreMarks, entry_of, rows}

-- the entries of two columns and rows are two
apart : (i j x y : ℕ) → j < rows → y < rows → entry_of i j ≡ entry_of x y → (i ≡ x) × (j ≡ y)
apart i j x y l m e = (omega arith, omega arith)

same_corner : (i j x y : ℕ) → i ≡ x → j ≡ y → is_same_corner (i, j) (x, y) ≡ true
same_corner i j x y a b = and_from (i == x) (j == y) (eq-eqb i x a) (eq-eqb j y b)

other_corner : (i j x y : ℕ) → j < rows → y < rows → (entry_of i j ≡ entry_of x y → ⊥) → is_same_corner (i, j) (x, y) ≡ false
other_corner i j x y l m differ = elim (cases_eq i x) [
  | inr d ↦ and_left (i == x) (j == y) (ne_eqb i x d)
  | inl e ↦ and_right (i == x) (j == y) (ne_eqb j y (λ g. differ (ap₂ entry_of e g)))
]

-- one mark more
pub mark_set : (test : (x y : ℕ) → Bool) (marks new : List Bool) (x y : ℕ) → x < rows → y < rows → new ≡ set marks (entry_of x y) true → AreMarks test marks →
    AreMarks (λ i j. test i j || is_same_corner (i, j) (x, y)) new
mark_set test marks new x y l m e are = subst (AreMarks (λ i j. test i j || is_same_corner (i, j) (x, y))) (sym e) (record {
  whole = length-set marks (entry_of x y) true ∙ are.whole;
  tells = λ i j a b. elim (cases_eq (entry_of i j) (entry_of x y)) [
    | inl same ↦ (
        let parts = apart i j x y b m same in
        let within : entry_of x y < length marks = let w = are.whole in omega (arith, w) in
        ap (λ k. get_or (set marks (entry_of x y) true) k false) same ∙ get_or-set_same marks (entry_of x y) true false within
        ∙ sym (or_right (test i j) (is_same_corner (i, j) (x, y)) (same_corner i j x y parts.0 parts.1)))
    | inr differ ↦
        get_or-set_other marks (entry_of x y) (entry_of i j) true false differ ∙ are.tells i j a b
        ∙ sym (ap (λ t. test i j || t) (other_corner i j x y b m differ) ∙ or-false (test i j))
  ];
})

-- where there is no such mark, none is missing
pub mark_far : (test : (x y : ℕ) → Bool) (marks : List Bool) (x y : ℕ) → ((x < rows) × (y < rows) → ⊥) → AreMarks test marks →
    AreMarks (λ i j. test i j || is_same_corner (i, j) (x, y)) marks
mark_far test marks x y far are = record {
  whole = are.whole;
  tells = λ i j a b. are.tells i j a b ∙ sym (ap (λ t. test i j || t) (elim (cases_eq i x) [
    | inr d ↦ and_left (i == x) (j == y) (ne_eqb i x d)
    | inl e ↦ and_right (i == x) (j == y) (ne_eqb j y (λ g. far (subst (λ k. k < rows) e a, subst (λ k. k < rows) g b)))
  ]) ∙ or-false (test i j));
}

-- the tests of some elements of a list, one more
pub marks_next : {X : Type 0} (of : (x y : ℕ) → X → Bool) (xs : List X) (k : ℕ) (d : X) (marks : List Bool) → k < length xs →
    AreMarks (λ i j. list_any (of i j) (take k xs) || of i j (get_or xs k d)) marks → AreMarks (λ i j. list_any (of i j) (take (k + 1) xs)) marks
marks_next of xs k d marks l are = record {
  whole = are.whole;
  tells = λ i j a b. are.tells i j a b ∙ sym (list_any_more (of i j) xs k d l);
}

-- a place of another kind sets no mark
pub place_set : (test : (x y : ℕ) → Bool) (marks : List Bool) (kind : Kind) (place : Place) → rank_of_kind kind ≡ rank_of_kind place.0 →
    AreMarks (λ i j. test i j || is_same_corner (i, j) (place.1, place.2)) marks → AreMarks (λ i j. test i j || is_same_place (kind, i, j) place) marks
place_set test marks kind place same are = record {
  whole = are.whole;
  tells = λ i j a b. are.tells i j a b ∙ ap (λ t. test i j || (t && is_same_corner (i, j) (place.1, place.2))) (sym (eq-eqb (rank_of_kind kind) (rank_of_kind place.0) same));
}

pub place_kept : (test : (x y : ℕ) → Bool) (marks : List Bool) (kind : Kind) (place : Place) → (rank_of_kind kind ≡ rank_of_kind place.0 → ⊥) →
    AreMarks test marks → AreMarks (λ i j. test i j || is_same_place (kind, i, j) place) marks
place_kept test marks kind place differ are = record {
  whole = are.whole;
  tells = λ i j a b. are.tells i j a b ∙ sym (ap (λ t. test i j || (t && is_same_corner (i, j) (place.1, place.2))) (ne_eqb (rank_of_kind kind) (rank_of_kind place.0) differ) ∙ or-false (test i j));
}
