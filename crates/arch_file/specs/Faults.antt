-- The faults of an architecture file (this project's profile).
use Rattle.std.specs.Prelude.{ℕ, Bool, true, false, if◌then◌else◌, List, Result, Ok, Err, codes}
use Rattle.vpr_text.specs.declared.fault.TextFault.TheVariants as text
use Rattle.vpr_text.specs.Faults.{text_line, text_name}
use Rattle.arch_file.specs.declared.fault.ArchFault.{ArchFault}
use Rattle.arch_file.specs.declared.fault.ArchFault.TheVariants as arch
use Rattle.arch_file.specs.declared.fault.LineFault.{LineFault}
use Rattle.arch_file.specs.declared.fault.LineFault.TheVariants.{UnknownKeyword, Repeated, BadNumber, BadWord, Unsupported, TooMany}

-- the fault of an architecture whose line n has this one
abbrev pub at_line : LineFault → ℕ → ArchFault
at_line UnknownKeyword n = arch.UnknownKeyword n
at_line Repeated n = arch.Repeated n
at_line BadNumber n = arch.BadNumber n
at_line BadWord n = arch.BadWord n
at_line Unsupported n = arch.Unsupported n
at_line TooMany n = arch.TooMany n

-- the first of the faults that a line has, in this order, or else what it says
abbrev pub first_fault : {X : Type 0} → (bad_number bad_word unsupported too_many : Bool) → X → Result X LineFault
first_fault bad_number bad_word unsupported too_many said =
    if bad_number then Err BadNumber
    else (if bad_word then Err BadWord
    else (if unsupported then Err Unsupported
    else (if too_many then Err TooMany
    else Ok said)))

-- ---- how a fault is reported

-- 0 is the end of the file
abbrev pub arch_line : ArchFault → ℕ
arch_line (arch.Text f) = text_line f
arch_line (arch.UnknownKeyword line) = line
arch_line (arch.Repeated line) = line
arch_line (arch.BadNumber line) = line
arch_line (arch.BadWord line) = line
arch_line (arch.Unsupported line) = line
arch_line (arch.TooMany line) = line
arch_line (arch.Missing entry) = 0
arch_line arch.Memory = 0

abbrev pub arch_name : ArchFault → List ℕ
arch_name (arch.Text f) = text_name f
arch_name (arch.UnknownKeyword line) = codes "UnknownKeyword"
arch_name (arch.Repeated line) = codes "Repeated"
arch_name (arch.BadNumber line) = codes "BadNumber"
arch_name (arch.BadWord line) = codes "BadWord"
arch_name (arch.Unsupported line) = codes "Unsupported"
arch_name (arch.TooMany line) = codes "TooMany"
arch_name (arch.Missing entry) = codes "Missing"
arch_name arch.Memory = codes "Memory"

-- memory ran out
abbrev pub is_arch_memory : ArchFault → Bool
is_arch_memory arch.Memory = true
is_arch_memory (arch.Text text.Memory) = true
is_arch_memory _ = false
