-- The line and the name of a netlist's fault, and whether memory ran out (ours).
use Rattle.std.specs.Prelude.{ℕ, Bool, true, false, List, codes}
use Rattle.vpr_text.specs.declared.fault.TextFault.TheVariants as text
use Rattle.vpr_text.specs.Faults.{text_line, text_name}
use Rattle.net_file.specs.declared.fault.NetFault.{NetFault}
use Rattle.net_file.specs.declared.fault.NetFault.TheVariants as net

-- 0 is the end of the file
abbrev pub net_line : NetFault → ℕ
net_line (net.Text f) = text_line f
net_line (net.BadLine line) = line
net_line (net.PinCount line) = line
net_line (net.DoubleName line) = line
net_line (net.NoDriver line) = line
net_line (net.TwoDrivers line) = line
net_line (net.DoubleSink line) = line
net_line (net.GlobalPin line) = line
net_line (net.TooMany line) = line
net_line net.Memory = 0

abbrev pub net_name : NetFault → List ℕ
net_name (net.Text f) = text_name f
net_name (net.BadLine line) = codes "BadLine"
net_name (net.PinCount line) = codes "PinCount"
net_name (net.DoubleName line) = codes "DoubleName"
net_name (net.NoDriver line) = codes "NoDriver"
net_name (net.TwoDrivers line) = codes "TwoDrivers"
net_name (net.DoubleSink line) = codes "DoubleSink"
net_name (net.GlobalPin line) = codes "GlobalPin"
net_name (net.TooMany line) = codes "TooMany"
net_name net.Memory = codes "Memory"

-- memory ran out
abbrev pub is_net_memory : NetFault → Bool
is_net_memory net.Memory = true
is_net_memory (net.Text text.Memory) = true
is_net_memory _ = false
