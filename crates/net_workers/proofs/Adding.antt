-- The exchange that adds a turn keeps the rule, and a history stays legal.
use Rattle.std.proofs.Common.{◌≡◌, ℕ, ◌+◌, ◌<◌, ◌==◌, Bool, true, false, List, [], ◌∷◌, ◌++◌, length, refl, ap, sym, subst, arith, inl, inr, length-append, None}
use Rattle.std.proofs.lemmas.List.{append-nil, take-append-le, take_at, get_or_append_left, get_or_at}
use Rattle.std.proofs.lemmas.Bool.{cases_lt}
use Rattle.std.proofs.lemmas.Bool.Decides.{nat_tests}
use mathlib.Core.List.{IsPrefix}
use prog.Atomic.{either}
use Rattle.logbook.specs.Pages.{Cell, cell, keeps, no_nib, step, Moves, Goes}
use Rattle.net_workers.specs.declared.made_turn.MadeTurn.{MadeTurn}
use Rattle.net_workers.specs.kept.TurnLogs.{Plan, Follows, IsLegal}
use Rattle.net_workers.specs.kept.LogRules.{IsKept, Adds}
use Rattle.net_workers.proofs.Fronts.{prefix_whole}

-- one turn more
pub legal_more : (p : Plan) (log : List MadeTurn) (t : MadeTurn) → IsLegal p log → Follows p log t → IsLegal p (log ++ t ∷ [])
legal_more p log t legal next = record {
  each = λ k d low.
      elim (cases_lt k (length log)) [
        | inl below ↦ rw (take-append-le k log (t ∷ []) (omega arith), get_or_append_left log (t ∷ []) d k below) (legal.each k d below)
        | inr past ↦
            let at : length log ≡ k = omega (arith, length-append log (t ∷ [])) in
            rw (take_at log (t ∷ []) k at, get_or_at log t [] d k at) next
      ];
}

abbrev pub shown : List MadeTurn → List MadeTurn
shown log = []

abbrev pub moved : List MadeTurn → List MadeTurn → ℕ → Type 0
moved xs ys n = Unit {0}

pub adds_goes : (log v : List MadeTurn) (e : MadeTurn) (old : ℕ) → length v ≡ old → IsPrefix v log
    → (b : Bool) → (length log == old) ≡ b
    → Goes IsKept shown moved 0 (v, (no_nib, None)) (λ n. either (n == old) (old + 1) n) (Adds (step 0 old (old + 1) e) (v, (no_nib, None))) ((length log, true) ∷ (0, true) ∷ []) log
adds_goes log v e old len pre true is =
    let here : length log ≡ old = grind (arith, nat_tests) in
    let same : v ≡ log = prefix_whole v log pre (omega arith) in
    let n : either (length log == old) (old + 1) (length log) ≡ length (log ++ e ∷ []) = rw is (omega (arith, length-append log (e ∷ []))) in (
      keeps,
      e ∷ [],
      None,
      tt,
      ap (λ (k : ℕ). (k, true) ∷ (0, true) ∷ []) n,
      inl (refl, refl),
      rw is (ap (λ w. w ++ e ∷ []) (sym same)),
    )
adds_goes log v e old len pre false is =
    let n : either (length log == old) (old + 1) (length log) ≡ length (log ++ []) = rw is (ap length (sym (append-nil log))) in (
      keeps,
      [],
      None,
      tt,
      ap (λ (k : ℕ). (k, true) ∷ (0, true) ∷ []) n,
      inl (refl, refl),
      rw is tt,
    )

-- whatever the history is, the exchange adds the turn to all that was seen, or finds that the
-- history is longer
pub adds_moves : (v : List MadeTurn) (e : MadeTurn) (old : ℕ) → length v ≡ old
    → Moves IsKept shown moved 0 (v, (no_nib, None)) (λ n. either (n == old) (old + 1) n) (Adds (step 0 old (old + 1) e) (v, (no_nib, None)))
adds_moves v e old len cs log kept pre away =
    let P : List Cell → Type 0 = λ c. (0 < length c) × ((cell c 0).1 ≡ true) × Goes IsKept shown moved 0 (v, (no_nib, None)) (λ n. either (n == old) (old + 1) n) (Adds (step 0 old (old + 1) e) (v, (no_nib, None))) c log in
    subst P (sym kept) (omega arith, refl, adds_goes log v e old len pre (length log == old) refl)
