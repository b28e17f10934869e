-- The trials of a run grow.
use Rattle.std.proofs.Common.{◌≡◌, ℕ, zero, suc, ◌+◌, ◌-◌, ◌<◌, List, [], ◌∷◌, ◌++◌, length, get_or, set, refl, ap, ◌∙◌, arith}
use Rattle.std.proofs.lemmas.List.{set-get_or}
use Rattle.gates.specs.declared.schedule.ScheduledTurn.{ScheduledTurn}
use Rattle.run_schedule.specs.Schedules.{TrialTurns}
use Rattle.run_schedule.specs.kept.Growing.{with_iteration}

abbrev pub grow : TrialTurns → List ScheduledTurn → TrialTurns
grow t turns = record t { iterations = t.iterations ++ turns ∷ [] }

at_last : (trials : List TrialTurns) (n : ℕ) (turns : List ScheduledTurn) (d : TrialTurns) → length trials ≡ n + 1 → set trials n (grow (get_or trials n d) turns) ≡ with_iteration trials turns
at_last [] n turns d e = absurd (omega (arith, e))
at_last (x ∷ []) zero turns d e = refl
at_last (x ∷ []) (suc n) turns d e = absurd (omega (arith, e))
at_last (x ∷ y ∷ xs) zero turns d e = absurd (omega (arith, e))
at_last (x ∷ y ∷ xs) (suc n) turns d e = ap (λ (later : List TrialTurns). x ∷ later) (at_last (y ∷ xs) n turns d (omega (arith, e)))

module _ (trials : List TrialTurns) (n : ℕ) (many : n ≡ length trials) (some : 0 < n) (old new : TrialTurns) (is : old ≡ get_or trials (n - 1) old) where
  -- the last trial was given an iteration more
  pub grown : (turns : List ScheduledTurn) → new ≡ grow old turns → set trials (n - 1) new ≡ with_iteration trials turns
  grown turns e =
      ap (set trials (n - 1)) (e ∙ ap (λ t. grow t turns) is) ∙ at_last trials (n - 1) turns old (omega (arith, many, some))

  -- it stayed as it was
  pub unchanged : new ≡ old → set trials (n - 1) new ≡ trials
  unchanged e = ap (set trials (n - 1)) (e ∙ is) ∙ set-get_or trials (n - 1) old
