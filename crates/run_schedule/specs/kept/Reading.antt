-- How a schedule is read from the front of a text.
use Rattle.std.specs.Prelude.{◌≡◌, ℕ, Bool, true, false, ◌||◌, ◌==◌, List, [], ◌∷◌, ◌++◌, Result, IfOk, MatchResult}
use Rattle.run_schedule.specs.declared.fault.FaultKind.{FaultKind}
use Rattle.run_schedule.specs.declared.fault.FaultKind.TheVariants.{Memory}

-- What a call reads from the front of a text: a value by its text; the rest is left over. If the
-- text begins with that of a value, and what follows can't continue it, exactly this value is read,
-- unless memory runs out.
pub record Reads {X : Type 0} (IsValid : X → Type 0) (text_of : X → List ℕ) (IsApart : List ℕ → Type 0) (old new : List ℕ) (result : Result X FaultKind) : Type 0 where
  pub found : IfOk result (λ x. IsValid x × (old ≡ text_of x ++ new))
  pub only : (x : X) (later : List ℕ) → IsValid x → IsApart later → old ≡ text_of x ++ later → MatchResult result (λ y. (y ≡ x) × (new ≡ later)) (λ fault. fault ≡ Memory)

-- a text that begins with this byte
abbrev pub begins : (byte : ℕ) → List ℕ → Bool
begins byte [] = false
begins byte (b ∷ text) = b == byte

-- a line that begins an iteration, one that begins a trial, and the last one
abbrev pub is_at_iteration : List ℕ → Bool
is_at_iteration text = begins 105 text

abbrev pub is_at_trial : List ℕ → Bool
is_at_trial text = begins 119 text

abbrev pub is_at_end : List ℕ → Bool
is_at_end text = begins 101 text

-- what follows the turns of an iteration
abbrev pub is_past_turns : List ℕ → Bool
is_past_turns text = is_at_iteration text || (is_at_trial text || is_at_end text)

-- a trial ends where no further iteration follows
abbrev pub EndsTrial : List ℕ → Type 0
EndsTrial text = (is_past_turns text ≡ true) × (is_at_iteration text ≡ false)

-- what a call reads from a whole text: a value with this text; and if a value has this text,
-- exactly that value, unless memory runs out
pub record ReadsAll {X : Type 0} (IsValid : X → Type 0) (text_of : X → List ℕ) (text : List ℕ) (result : Result X FaultKind) : Type 0 where
  pub found : IfOk result (λ x. IsValid x × (text ≡ text_of x))
  pub only : (x : X) → IsValid x → text ≡ text_of x → MatchResult result (λ y. y ≡ x) (λ fault. fault ≡ Memory)
