-- The stages of reading a design: first the architecture and the text of the netlist, then the
-- netlist and its placement from these, and then what is on a device (ours).
use Rattle.std.specs.Prelude.{ℕ, List, Result, Ok}
use Rattle.arch_file.specs.Architecture.{Architecture}
use Rattle.rr_graph.specs.node.Mode.{Mode}
use Rattle.run_inputs.specs.declared.fault.InputFile.TheVariants as file
use Rattle.run_inputs.specs.declared.fault.AppFault.{AppFault}
use Rattle.run_inputs.specs.Runs.{Input, bytes_in}
use Rattle.vpr_text.specs.Readings.{◌>>=◌}
use Rattle.run_inputs.specs.Inputs.{PlacedDesign, PlacedNetlist, arch_in, design_on, netlist_from, placed_with, placement_in}

-- an architecture, and the bytes of a netlist for it
pub record NetlistText : Type 0 where
  pub arch : Architecture
  pub bytes : List ℕ

unfoldable pub text_in : (arch net : Input) → Result NetlistText AppFault
text_in arch net = arch_in arch >>= λ a. bytes_in file.Net net >>= λ bytes. Ok (record { arch = a; bytes = bytes })

unfoldable pub placed_of : NetlistText → (place : Input) → Result PlacedNetlist AppFault
placed_of t place = netlist_from t.arch t.bytes >>= λ n. placement_in t.arch n place >>= λ p. Ok (placed_with t.arch n p)

unfoldable pub design_of : (width : ℕ) → Mode → NetlistText → (place : Input) → Result PlacedDesign AppFault
design_of width mode t place = placed_of t place >>= λ p. Ok (design_on width mode p)
