-- What a run reads from its input files, and the outcome of printing a text (ours).
use Rattle.std.specs.Prelude.{◌≡◌, ℕ, ◌+◌, ◌^◌, Bool, if◌then◌else◌, List, ◌++◌, take, Option, None, Some, Result, Ok, Err, MatchBool}
use Rattle.std.specs.Io.KnownBytes.{Appends, Keeps}
use Rattle.run_inputs.specs.declared.fault.InputFile.{InputFile}
use Rattle.run_inputs.specs.declared.fault.AppFault.{AppFault}
use Rattle.run_inputs.specs.declared.fault.AppFault.TheVariants.{Unread, Unwritten}

-- ---- what is read

-- the reading of a source: the bytes that it had before, if they are known, and whether it failed
pub record Reading : Type 0 where
  pub had : Option (List ℕ)
  pub failed : Bool

abbrev pub reading : Option (List ℕ) → Bool → Reading
reading had failed = record { had = had; failed = failed }

-- an input file as a run met it: whether its source failed, and the bytes that were read from it
pub record Input : Type 0 where
  pub failed : Bool
  pub bytes : List ℕ

-- the bytes that are read from a source: all that it has, up to one more than a file may have
abbrev pub AreRead : Option (List ℕ) → List ℕ → Type 0
AreRead None bytes = Unit {0}
AreRead (Some all) bytes = bytes ≡ take (2 ^ 24 + 1) all

-- a source was met as this input
pub record IsMet (r : Reading) (input : Input) : Type 0 where
  pub fails : input.failed ≡ r.failed
  pub read : AreRead r.had input.bytes

-- a source was met as an input for which P holds
abbrev pub Meets : Reading → (P : Input → Type 0) → Type 0
Meets r P = (input : Input) × IsMet r input × P input

-- the files of a placed design
pub record DesignFiles : Type 0 where
  pub arch : Input
  pub net : Input
  pub place : Input

-- the sources of a placed design were met as files for which P holds
abbrev pub MeetsDesign : (arch net place : Reading) → (P : DesignFiles → Type 0) → Type 0
MeetsDesign arch net place P =
    (files : DesignFiles) × IsMet arch files.arch × IsMet net files.net × IsMet place files.place × P files

-- the bytes of an input file
abbrev pub bytes_in : InputFile → Input → Result (List ℕ) AppFault
bytes_in file input = if input.failed then Err (Unread file) else Ok input.bytes

-- ---- what is printed

-- the writing of a sink: the bytes that it had taken before, and those that it has taken after, if
-- they are known, and whether it has failed
pub record Writing : Type 0 where
  pub before : Option (List ℕ)
  pub after : Option (List ℕ)
  pub failed : Bool

abbrev pub writing : Option (List ℕ) → Option (List ℕ) → Bool → Writing
writing before after failed = record { before = before; after = after; failed = failed }

-- the writing of a sink; these functions give what it took and whether it has failed
abbrev pub writing_to : {S : Type 0} → (taken : S → Option (List ℕ)) → (failed : S → Bool) → (sink new_sink : S) → Writing
writing_to taken failed sink new_sink = writing (taken sink) (taken new_sink) (failed new_sink)

-- the sink took nothing
abbrev pub TakesNothing : Writing → Type 0
TakesNothing w = Keeps w.before w.after

-- the sink took all of the text, and nothing else
abbrev pub TakesAll : Writing → List ℕ → Type 0
TakesAll w text = Appends w.before w.after text

-- the sink took a front of the text, and nothing else
abbrev pub TakesFront : Writing → List ℕ → Type 0
TakesFront w text = (front : List ℕ) × (rest : List ℕ) × (text ≡ front ++ rest) × Appends w.before w.after front

-- The outcome of printing a text and then answering a value: Unwritten exactly if the sink failed,
-- and then it took a front of the text; else it took all of it.
abbrev pub PrintsText : {R : Type 0} → Writing → List ℕ → R → Result R AppFault → Type 0
PrintsText w text value result =
    MatchBool w.failed ((result ≡ Err Unwritten) × TakesFront w text) ((result ≡ Ok value) × TakesAll w text)

-- a run ends with the fault of its inputs, and its sinks are untouched; or it goes on with what
-- they say
abbrev pub StopsOrGoesOn : {X R : Type 0} → (untouched : Type 0) → (goes_on : X → Result R AppFault → Type 0) → Result X AppFault → Result R AppFault → Type 0
StopsOrGoesOn untouched goes_on (Err f) result = (result ≡ Err f) × untouched
StopsOrGoesOn untouched goes_on (Ok x) result = goes_on x result
