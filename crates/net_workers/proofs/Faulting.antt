-- The first of the faults that a loop meets.
use Rattle.std.proofs.Common.{◌≡◌, ◌<◌, ◌≤◌, ◌+◌, ℕ, List, ◌∷◌, Option, Some, Result, Ok, Err, length, get_or, drop, sym, ap, ◌∙◌}
use Rattle.std.proofs.lemmas.List.{at_drop_more, at_drop_all}
use Rattle.net_workers.specs.declared.fault.TurnFault.{TurnFault}
use Rattle.net_workers.specs.kept.Faults.{first_of, first_met}

pub met_more : {A : Type 0} (met next : Option TurnFault) (results : List (Result A TurnFault)) (i : ℕ) (x y : Result A TurnFault)
    → i < length results → x ≡ get_or results i x → x ≡ y → ((rest : List (Result A TurnFault)) → first_met met (y ∷ rest) ≡ first_met next rest)
    → first_met next (drop (i + 1) results) ≡ first_met met (drop i results)
met_more met next results i x y below at is step =
    sym (at_drop_more (first_met met) results i x below ∙ ap (λ z. first_met met (z ∷ drop (i + 1) results)) (sym at ∙ is) ∙ step (drop (i + 1) results))

pub met_done : {A : Type 0} (met next : Option TurnFault) (results : List (Result A TurnFault)) (i : ℕ) (x : Result A TurnFault) (a : A)
    → i < length results → x ≡ get_or results i x → x ≡ Ok a → next ≡ met → first_met next (drop (i + 1) results) ≡ first_met met (drop i results)
met_done met next results i x a below at is same =
    met_more met next results i x (Ok a) below at is (λ rest. ap (λ m. first_met m rest) (sym same))

pub met_fault : {A : Type 0} (met next : Option TurnFault) (results : List (Result A TurnFault)) (i : ℕ) (x : Result A TurnFault) (f : TurnFault)
    → i < length results → x ≡ get_or results i x → x ≡ Err f → next ≡ Some (first_of met f) → first_met next (drop (i + 1) results) ≡ first_met met (drop i results)
met_fault met next results i x f below at is first =
    met_more met next results i x (Err f) below at is (λ rest. ap (λ m. first_met m rest) (sym first))

pub met_all : {A : Type 0} (met : Option TurnFault) (results : List (Result A TurnFault)) (i : ℕ) → length results ≤ i → met ≡ first_met met (drop i results)
met_all met results i past = sym (at_drop_all (first_met met) results i past)
