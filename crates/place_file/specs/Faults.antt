-- The line and the name of a placement's fault, and whether memory ran out (ours).
use Rattle.std.specs.Prelude.{ℕ, Bool, true, false, List, codes}
use Rattle.vpr_text.specs.declared.fault.TextFault.TheVariants as text
use Rattle.vpr_text.specs.Faults.{text_line, text_name}
use Rattle.place_file.specs.declared.fault.PlaceFault.{PlaceFault}
use Rattle.place_file.specs.declared.fault.PlaceFault.TheVariants as place

-- 0 is the end of the file
abbrev pub place_line : PlaceFault → ℕ
place_line (place.Text f) = text_line f
place_line (place.BadLine line) = line
place_line (place.ArraySize line) = line
place_line (place.UnknownBlock line) = line
place_line (place.PlacedTwice line) = line
place_line (place.OffSite line) = line
place_line (place.Occupied line) = line
place_line (place.Missing block) = 0
place_line place.Memory = 0

abbrev pub place_name : PlaceFault → List ℕ
place_name (place.Text f) = text_name f
place_name (place.BadLine line) = codes "BadLine"
place_name (place.ArraySize line) = codes "ArraySize"
place_name (place.UnknownBlock line) = codes "UnknownBlock"
place_name (place.PlacedTwice line) = codes "PlacedTwice"
place_name (place.OffSite line) = codes "OffSite"
place_name (place.Occupied line) = codes "Occupied"
place_name (place.Missing block) = codes "Missing"
place_name place.Memory = codes "Memory"

-- memory ran out
abbrev pub is_place_memory : PlaceFault → Bool
is_place_memory place.Memory = true
is_place_memory (place.Text text.Memory) = true
is_place_memory _ = false
