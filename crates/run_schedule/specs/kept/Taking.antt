-- How a text is read from its front.
use Rattle.std.specs.Prelude.{◌≡◌, ℕ, ◌<◌, ◌≤◌, ◌^◌, List, [], ◌∷◌, ◌++◌, Option, Some, IfSome, IsSome, decimal}
use Rattle.gates.specs.declared.schedule.ScheduledTurn.{ScheduledTurn}

-- what a call takes off a text: a value by its text, with the rest left over; and if the text
-- begins with that of a value, exactly this value
pub record Takes {X : Type 0} (IsValid : X → Type 0) (text_of : X → List ℕ) (old new : List ℕ) (result : Option X) : Type 0 where
  pub found : IfSome result (λ x. IsValid x × (old ≡ text_of x ++ new))
  pub only : (x : X) (later : List ℕ) → IsValid x → old ≡ text_of x ++ later → (result ≡ Some x) × (new ≡ later)

-- the same, but the call doesn't return the value
pub record Passes {X : Type 0} (IsValid : X → Type 0) (text_of : X → List ℕ) (old new : List ℕ) (result : Option (Unit {0})) : Type 0 where
  pub found : IsSome result → (x : X) × IsValid x × (old ≡ text_of x ++ new)
  pub only : (x : X) (later : List ℕ) → IsValid x → old ≡ text_of x ++ later → IsSome result × (new ≡ later)

-- the same if a value has several texts
pub record TakesSome {X : Type 0} (IsText : X → List ℕ → Type 0) (old new : List ℕ) (result : Option X) : Type 0 where
  pub found : IfSome result (λ x. (text : List ℕ) × IsText x text × (old ≡ text ++ new))
  pub only : (x : X) (text later : List ℕ) → IsText x text → old ≡ text ++ later → (result ≡ Some x) × (new ≡ later)

-- any value
abbrev pub IsAny : {X : Type 0} → X → Type 0
IsAny x = Unit {0}

-- a number that fits 32 bits
abbrev pub IsWord : ℕ → Type 0
IsWord n = n < 2 ^ 32

-- a number and the byte after it
abbrev pub ended_text : (end : ℕ) → (number : ℕ) → List ℕ
ended_text end number = decimal number ++ end ∷ []

-- a number on a line that begins with this front
abbrev pub numbered_line : (front : List ℕ) → (number : ℕ) → List ℕ
numbered_line front number = front ++ ended_text 10 number

abbrev pub IsWithin : (least most : ℕ) → ℕ → Type 0
IsWithin least most n = (least ≤ n) × (n ≤ most)

-- a turn as it can be read
pub record IsReadable (t : ScheduledTurn) : Type 0 where
  pub net : IsWord t.net
  pub worker : IsWord t.worker
  pub seen : IsWord t.seen
