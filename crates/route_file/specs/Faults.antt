-- The line and the name of a routing file's fault, and whether memory ran out (ours).
use Rattle.std.specs.Prelude.{ℕ, Bool, true, false, List, codes}
use Rattle.vpr_text.specs.declared.fault.TextFault.TheVariants as text
use Rattle.vpr_text.specs.Faults.{text_line, text_name}
use Rattle.route_file.specs.declared.fault.RouteFileFault.{RouteFileFault}
use Rattle.route_file.specs.declared.fault.RouteFileFault.TheVariants as route

-- 0 is the end of the file
abbrev pub route_line : RouteFileFault → ℕ
route_line (route.Text f) = text_line f
route_line (route.BadLine line) = line
route_line (route.ArraySize line) = line
route_line (route.UnknownNet line) = line
route_line (route.NetTwice line) = line
route_line (route.NoNode line) = line
route_line (route.Detached line) = line
route_line route.Memory = 0

abbrev pub route_name : RouteFileFault → List ℕ
route_name (route.Text f) = text_name f
route_name (route.BadLine line) = codes "BadLine"
route_name (route.ArraySize line) = codes "ArraySize"
route_name (route.UnknownNet line) = codes "UnknownNet"
route_name (route.NetTwice line) = codes "NetTwice"
route_name (route.NoNode line) = codes "NoNode"
route_name (route.Detached line) = codes "Detached"
route_name route.Memory = codes "Memory"

-- memory ran out
abbrev pub is_route_memory : RouteFileFault → Bool
is_route_memory route.Memory = true
is_route_memory (route.Text text.Memory) = true
is_route_memory _ = false
