-- How a run meets its input files, and stops at one or goes on after it.
use Rattle.std.proofs.Common.{◌≡◌, ℕ, ◌+◌, ◌^◌, Bool, true, false, take, List, [], Option, Some, None, Result, Ok, Err, refl, sym, ap, subst, ◌∙◌}
use Rattle.std.specs.Prelude.{nat_lt}
use Rattle.std.specs.Option.{option_map_or}
use Rattle.std.proofs.lemmas.Bool.{false≢true}
use Rattle.vpr_text.specs.Transfer.{ReadsFront}
use Rattle.run_inputs.specs.declared.fault.InputFile.{InputFile}
use Rattle.run_inputs.specs.declared.fault.InputFile.TheVariants as file
use Rattle.run_inputs.specs.declared.fault.AppFault.{AppFault}
use Rattle.run_inputs.specs.declared.fault.AppFault.TheVariants.{Memory, Unread}
use Rattle.run_inputs.specs.Inputs.{ends_before, file_of, turn_of}
use Rattle.run_inputs.specs.Runs.{Input, Reading, reading, AreRead, IsMet, Meets, DesignFiles, MeetsDesign, bytes_in, StopsOrGoesOn}
use Rattle.vpr_text.specs.Readings.{Gives, ◌>>=◌}

-- any source is met as some input
met : (had : Option (List ℕ)) (failed : Bool) → (input : Input) × IsMet (reading had failed) input
met None failed = (record { failed = failed; bytes = [] }, record { fails = refl; read = tt })
met (Some all) failed = (record { failed = failed; bytes = take (2 ^ 24 + 1) all }, record { fails = refl; read = refl })

pub meets_any : {r : Reading} {P : Input → Type 0} → ((input : Input) → P input) → Meets r P
meets_any {r} always = let some = met r.had r.failed in (some.0, some.1, always some.0)

pub meets_some : {r : Reading} → Meets r (λ _. Unit {0})
meets_some = meets_any (λ input. tt)

pub meets_so : {r : Reading} {P Q : Input → Type 0} → Meets r P → ((input : Input) → P input → Q input) → Meets r Q
meets_so m so = (m.0, m.1, so m.0 m.2)

-- the files of a design, of which the first two and the third were met so
pub meets_files : {arch net place : Reading} {P : Input → Input → Type 0} {Q : Input → Type 0} {R : DesignFiles → Type 0}
    → Meets arch (λ a. Meets net (P a)) → Meets place Q
    → ((files : DesignFiles) → P files.arch files.net → Q files.place → R files) → MeetsDesign arch net place R
meets_files two third so =
    let files : DesignFiles = record { arch = two.0; net = two.2.0; place = third.0 } in
    (files, two.1, two.2.1, third.1, so files two.2.2 third.2)

are_read : (old new : Option (List ℕ)) (bytes : List ℕ) → ReadsFront (2 ^ 24 + 1) old new bytes → AreRead old bytes
are_read None new bytes r = tt
are_read (Some all) new bytes r = r.0

-- a source that failed
pub unread : (file : InputFile) (had : Option (List ℕ)) (failed : Bool) → failed ≡ true
    → Meets (reading had failed) (λ input. bytes_in file input ≡ Err (Unread file))
unread file had failed e =
    let some = met had failed in
    (some.0, some.1, subst (λ (f : Bool). bytes_in file (record { failed = f; bytes = some.0.bytes }) ≡ Err (Unread file)) (sym (some.1.fails ∙ e)) refl)

-- a source that was read
pub was_read : (file : InputFile) (old new : Option (List ℕ)) (failed : Bool) (bytes : List ℕ) → ReadsFront (2 ^ 24 + 1) old new bytes → failed ≡ false
    → Meets (reading old failed) (λ input. bytes_in file input ≡ Ok bytes)
was_read file old new failed bytes r e =
    (record { failed = failed; bytes = bytes }, record { fails = refl; read = are_read old new bytes r }, subst (λ (f : Bool). bytes_in file (record { failed = f; bytes = bytes }) ≡ Ok bytes) (sym e) refl)

-- what comes of a fault, and of a value
pub fails_by : {A B : Type 0} (f : A → Result B AppFault) (given : Result A AppFault) (e : AppFault) → given ≡ Err e → (given >>= f) ≡ Err e
fails_by f given e h = ap (λ g. g >>= f) h

pub gives_by : {A B : Type 0} (f : A → Result B AppFault) (given : Result A AppFault) (x : A) → given ≡ Ok x → (given >>= f) ≡ f x
gives_by f given x h = ap (λ g. g >>= f) h

-- what is read of a value is what comes of it
pub given_by : {A B : Type 0} (f : A → Result B AppFault) (given : Result A AppFault) (x : A) (result : Result B AppFault) → given ≡ Ok x
    → Gives Memory (λ y. y) result (f x) → Gives Memory (λ y. y) result (given >>= f)
given_by f given x result h read = subst (Gives Memory (λ y. y) result) (sym (gives_by f given x h)) read

-- a run whose inputs have a fault ends with it
pub stops : {X R untouched : Type 0} {given : Result X AppFault} {e : AppFault} (goes_on : X → Result R AppFault → Type 0) → untouched → given ≡ Err e
    → StopsOrGoesOn untouched goes_on given (Err e)
stops {untouched} {e} goes_on was h = subst (λ g. StopsOrGoesOn untouched goes_on g (Err e)) (sym h) (refl, was)

-- a run goes on with what its inputs come to
pub goes_on_by : {X R : Type 0} {given known : Result X AppFault} (untouched : Type 0) (goes_on : X → Result R AppFault → Type 0) (result : Result R AppFault)
    → given ≡ known → StopsOrGoesOn untouched goes_on known result → StopsOrGoesOn untouched goes_on given result
goes_on_by untouched goes_on result same runs = subst (λ g. StopsOrGoesOn untouched goes_on g result) (sym same) runs

-- ---- at which file a run ended

late_file : (at : InputFile) (o : Option InputFile) → option_map_or (λ x. nat_lt (turn_of x) 3) o false ≡ false
    → option_map_or (λ x. nat_lt (turn_of x) (turn_of at)) o false ≡ false
late_file at None h = refl
late_file at (Some file.Arch) h = absurd (false≢true (sym h))
late_file at (Some file.Net) h = absurd (false≢true (sym h))
late_file at (Some file.Place) h = absurd (false≢true (sym h))
late_file file.Arch (Some file.Route) h = refl
late_file file.Net (Some file.Route) h = refl
late_file file.Place (Some file.Route) h = refl
late_file file.Route (Some file.Route) h = refl

-- a run that didn't end before the routing ended before no file
pub ends_late : {R : Type 0} (at : InputFile) (result : Result R AppFault) → ends_before file.Route result ≡ false → ends_before at result ≡ false
ends_late at (Ok value) h = refl
ends_late at (Err f) h = late_file at (file_of f) h

pub ends_not : {R P : Type 0} (at : InputFile) (result : Result R AppFault) → ends_before file.Route result ≡ false → ends_before at result ≡ true → P
ends_not at result late before = absurd (false≢true (sym (ends_late at result late) ∙ before))

-- ---- whether a source failed

pub not_failed : (failed : Bool) → (failed ≡ true → ⊥) → failed ≡ false
not_failed true never = absurd (never refl)
not_failed false never = refl
