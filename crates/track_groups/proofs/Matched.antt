-- Wires among nodes that are one track of neighbours, one by one.
use Rattle.std.proofs.Common.{◌≡◌, ℕ, ◌+◌, ◌<◌, ◌==◌, false, List, [], ◌∷◌, ◌++◌, length, take, get_or, inl, inr, refl, sym, ap, ◌∙◌, subst}
use Rattle.std.specs.Prelude.{◌||◌}
use Rattle.std.specs.List.{list_any}
use Rattle.std.proofs.lemmas.Bool.{eqb-true, false_from_ne_true}
use Rattle.std.proofs.lemmas.List.{take_more}
use Rattle.std.proofs.lemmas.List.Elements.{All-push, All-nil}
use Rattle.std.proofs.lemmas.List.Folds.{list_any-append}
use Rattle.std.proofs.Math.Bool.{or-false}
use Rattle.track_groups.specs.Groups.{Grouping, on_track, IsOn, wire_on, place_of, HasPlace}
use Rattle.track_groups.specs.Joints.{wire_beside, IsBeside}
use Rattle.track_groups.specs.kept.Joining.{is_beside_wire, Matches, AddsNeighbour, StepsTo}
use Rattle.track_groups.proofs.PushedRows.{part-back}

pub matches_none : (t : Grouping) (j : ℕ) → Matches t [] [] j
matches_none t j = record { beside = All-nil (IsBeside t.groups j); same = λ w has. refl }

module _ (t : Grouping) (ids hs : List ℕ) (j v : ℕ) (before : Matches t ids hs j) where
  matches_more : (h : ℕ) → IsBeside t.groups j h → wire_beside t.groups j h ≡ v → Matches t (ids ++ v ∷ []) (hs ++ h ∷ []) j
  matches_more h on is = record {
    beside = All-push (IsBeside t.groups j) hs h before.beside on;
    same = λ w has.
        list_any-append (λ u. u == w) ids (v ∷ []) ∙ ap (λ b. b || ((v == w) || false)) (before.same w has)
        ∙ ap (λ n. list_any (is_beside_wire t j w) hs || ((n == w) || false)) (sym is) ∙ sym (list_any-append (is_beside_wire t j w) hs (h ∷ []));
  }

  matches_skip : (HasPlace t v → ⊥) → Matches t (ids ++ v ∷ []) hs j
  matches_skip none = record {
    beside = before.beside;
    same = λ w has.
        let P : ℕ → Type 0 = HasPlace t in
        let other : (v == w) ≡ false = false_from_ne_true (v == w) (λ e. none (subst P (sym (eqb-true v w e)) has)) in
        list_any-append (λ u. u == w) ids (v ∷ []) ∙ ap (λ b. list_any (λ u. u == w) ids || (b || false)) other ∙ or-false (list_any (λ u. u == w) ids) ∙ before.same w has;
  }

pub neighbour_next : (t : Grouping) (ids : List ℕ) (i : ℕ) (hs new : List ℕ) → i < length ids → Matches t (take i ids) hs 0 → AddsNeighbour t (get_or ids i 0) hs new → Matches t (take (i + 1) ids) new 0
neighbour_next t ids i hs new l before adds =
    let v = get_or ids i 0 in
    let q = place_of t v in
    let P : List ℕ → Type 0 = λ xs. Matches t xs new 0 in
    let Q : List ℕ → Type 0 = λ hs. Matches t (take i ids ++ v ∷ []) hs 0 in
    subst P (sym (take_more ids i 0 l)) (elim adds [
      | inl more ↦ (
          let R : ℕ → Type 0 = λ j. IsOn t.groups (on_track q.group j) in
          let is : wire_beside t.groups 0 q.group ≡ v = ap (λ j. wire_on t.groups (on_track q.group j)) (sym more.1) ∙ more.0.is in
          subst Q (sym more.2) (matches_more t (take i ids) hs 0 v before q.group (subst R more.1 more.0.on) is))
      | inr none ↦ subst Q (sym none.1) (matches_skip t (take i ids) hs 0 v before none.0)
    ])

pub step_next : (t : Grouping) (ids hs : List ℕ) (j i n m : ℕ) → i < length ids → Matches t (take i ids) (take n hs) j → StepsTo t (get_or ids i 0) hs j n m → Matches t (take (i + 1) ids) (take m hs) j
step_next t ids hs j i n m l before steps =
    let v = get_or ids i 0 in
    let P : List ℕ → Type 0 = λ xs. Matches t xs (take m hs) j in
    let Q : List ℕ → Type 0 = λ hs. Matches t (take i ids ++ v ∷ []) hs j in
    subst P (sym (take_more ids i 0 l)) (elim steps [
      | inl more ↦ subst Q (sym (ap (λ k. take k hs) more.3 ∙ take_more hs n 0 more.0)) (matches_more t (take i ids) (take n hs) j v before (get_or hs n 0) more.1 more.2)
      | inr none ↦ subst Q (sym (ap (λ k. take k hs) none.1)) (matches_skip t (take i ids) (take n hs) j v before none.0)
    ])

take-all : {X : Type 0} (n : ℕ) (xs : List X) → n ≡ length xs → take n xs ≡ xs
take-all n xs e = ap (λ k. take k xs) e ∙ part-back [] xs

pub matches_all : (t : Grouping) (ids hs : List ℕ) (j n : ℕ) → n ≡ length hs → Matches t ids (take n hs) j → Matches t ids hs j
matches_all t ids hs j n e m = (let P : List ℕ → Type 0 = λ xs. Matches t ids xs j in subst P (take-all n hs e) m)
