-- Which netlist a text is, for an architecture with these pins (VPR and T-VPack manual 4.30).
use Rattle.std.specs.Prelude.{◌≡◌, ℕ, ◌<◌, List, [], ◌∷◌, ◌++◌, length, None, Ok}
use Rattle.vpr_text.specs.Words.{Line}
use Rattle.vpr_text.specs.Text.{lines_of}
use Rattle.arch_file.specs.declared.entries.Pin.{Pin}
use Rattle.net_file.specs.Blocks.{blocks_of}
use Rattle.net_file.specs.Judge.{fault_of_next}
use Rattle.net_file.specs.Lines.{net_names, global_names, opened}
use Rattle.net_file.specs.Netlist.{Netlist}
use Rattle.net_file.specs.Reading.{rows_of, nets_of}
use Rattle.net_file.specs.WholeFile.{fault_at}

-- after those before it each of the lines is without a fault
abbrev pub AreAccepted : ℕ → List Line → List Line → Type 0
AreAccepted pins before [] = Unit {0}
AreAccepted pins before (l ∷ ls) = (fault_of_next pins before l ≡ None) × AreAccepted pins (before ++ l ∷ []) ls

-- no line is faulty, each element has its pinlist, no net is faulty, and the netlist has exactly
-- the blocks and nets of the lines
pub record ReadsNet (pins : List Pin) (lines : List Line) (netlist : Netlist) : Type 0 where
  pub each_line : AreAccepted (length pins) [] lines
  pub complete : opened lines ≡ None
  pub each_net : (n : ℕ) → n < length (net_names lines) → fault_at (net_names lines) (global_names lines) (rows_of pins (net_names lines) lines) n ≡ None
  pub value : netlist ≡ record { blocks = blocks_of (net_names lines) lines; nets = nets_of (net_names lines) (global_names lines) (rows_of pins (net_names lines) lines) }

-- the bytes are a text without faults, and its lines are read as this netlist
pub record ReadsBytes (pins : List Pin) (bytes : List ℕ) (netlist : Netlist) : Type 0 where
  pub lines : List Line
  pub is_text : lines_of bytes ≡ Ok lines
  pub reads : ReadsNet pins lines netlist
