-- Turns that are those of a schedule.
use Rattle.std.proofs.Common.{◌≡◌, ℕ, ◌<◌, Bool, false, not, ◌&&◌, List, length, get_or, eqb, Option, None, Some, Bor, refl, sym, ap, ◌∙◌}
use Rattle.std.specs.Bool.{Decides}
use Rattle.std.specs.Cmp.Lexicographic.{pointwise}
use Rattle.std.proofs.lemmas.Bool.{not-false}
use Rattle.std.proofs.lemmas.Bool.Decides.{Decides-and, Decides-eqb, Decides-like}
use Rattle.std.proofs.lemmas.Slice.Eq.{slice_eq-Decides}
use Rattle.std.specs.Prelude.{IfSome}
use Rattle.std.specs.List.{Any}
use Rattle.std.specs.Option.{option_copied}
use Rattle.gates.specs.declared.schedule.ScheduledTurn.{ScheduledTurn}
use Rattle.run_schedule.specs.Follows.{turns_at}
use Rattle.run_schedule.specs.Schedules.{TrialTurns}

-- the turns of an iteration of the trial at a place
pub turns_found : (trials : List TrialTurns) (place iteration : ℕ) (t : TrialTurns) → place < length trials → t ≡ get_or trials place t
    → (found : Option (Bor (List ScheduledTurn))) → option_copied found ≡ turns_at t iteration → IfSome found (λ turns. Any (λ u. turns_at u iteration ≡ Some turns.now) trials)
turns_found trials place iteration t within is None e = tt
turns_found trials place iteration t within is (Some turns) e = (place, t, within, sym is, sym e)

-- ---- the same turns

decides : (s t : ScheduledTurn) → Decides (eqb s.worker t.worker && (eqb s.net t.net && eqb s.seen t.seen)) (s ≡ t)
decides s t =
    Decides-like (eqb s.worker t.worker && (eqb s.net t.net && eqb s.seen t.seen))
    (λ (h : (s.worker ≡ t.worker) × ((s.net ≡ t.net) × (s.seen ≡ t.seen))). λ i. record { worker = h.0 i; net = h.1.0 i; seen = h.1.1 i })
    (λ e. (ap (λ (u : ScheduledTurn). u.worker) e, (ap (λ (u : ScheduledTurn). u.net) e, ap (λ (u : ScheduledTurn). u.seen) e)))
    (Decides-and (eqb s.worker t.worker) (eqb s.net t.net && eqb s.seen t.seen) (Decides-eqb s.worker t.worker)
    (Decides-and (eqb s.net t.net) (eqb s.seen t.seen) (Decides-eqb s.net t.net) (Decides-eqb s.seen t.seen)))

-- turns that a comparison finds alike
pub same_turns : (xs ys : List ScheduledTurn) (differ : Bool) → differ ≡ not (pointwise (λ (s t : ScheduledTurn). eqb s.worker t.worker && (eqb s.net t.net && eqb s.seen t.seen)) xs ys) → differ ≡ false → xs ≡ ys
same_turns xs ys differ e alike =
    let E : ScheduledTurn → ScheduledTurn → Bool = λ s t. eqb s.worker t.worker && (eqb s.net t.net && eqb s.seen t.seen) in
    (slice_eq-Decides decides xs ys (pointwise E xs ys) refl).0 (not-false (pointwise E xs ys) (sym e ∙ alike))
