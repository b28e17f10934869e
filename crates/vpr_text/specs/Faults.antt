-- The line and the name of a text's fault, and whether memory ran out (ours).
use Rattle.std.specs.Prelude.{ℕ, Bool, true, false, List, codes}
use Rattle.vpr_text.specs.declared.fault.TextFault.{TextFault}
use Rattle.vpr_text.specs.declared.fault.TextFault.TheVariants.{TooLong, BadByte, Memory}

-- 0 where the whole text is at fault
abbrev pub text_line : TextFault → ℕ
text_line TooLong = 0
text_line (BadByte line) = line
text_line Memory = 0

abbrev pub text_name : TextFault → List ℕ
text_name TooLong = codes "TooLong"
text_name (BadByte line) = codes "BadByte"
text_name Memory = codes "Memory"

abbrev pub is_text_memory : TextFault → Bool
is_text_memory Memory = true
is_text_memory _ = false
