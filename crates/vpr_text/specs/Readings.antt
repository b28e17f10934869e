-- What a reader gives, or the fault of what it reads, whatever these are.
use Rattle.std.specs.Prelude.{◌≡◌, ◌≢◌, Option, None, Some, Result, Ok, Err}

-- what f gives for what was read; a fault stays
infixl 10 ◌>>=◌
abbrev pub ◌>>=◌ : {A B F : Type 0} → Result A F → (A → Result B F) → Result B F
(Ok x) >>= f = f x
(Err fault) >>= f = Err fault

-- what was read, or the fault that was found
abbrev pub unless_faulty : {X F : Type 0} → Option F → Result X F → Result X F
unless_faulty (Some fault) rest = Err fault
unless_faulty None rest = rest

-- what was read, or its fault reported as another one
abbrev pub with_fault : {X F G : Type 0} → (F → G) → Result X F → Result X G
with_fault wrap (Ok x) = Ok x
with_fault wrap (Err fault) = Err (wrap fault)

-- what a call returned, seen by view, is what is given, unless memory ran out, which is one of the
-- faults
abbrev pub Gives : {X Y F : Type 0} → (memory : F) → (view : X → Y) → Result X F → Result Y F → Type 0
Gives memory view (Ok x) given = given ≡ Ok (view x)
Gives memory view (Err fault) given = fault ≢ memory → given ≡ Err fault
