-- What the input files of a run say, each read after the one before it: a value, or the first fault
-- in reading order (ours).
use Rattle.std.specs.Prelude.{ℕ, Bool, false, nat_lt, List, Option, None, Some, Result, Ok, Err}
use Rattle.std.specs.Option.{option_map_or}
use Rattle.arch_file.specs.Architecture.{Architecture}
use Rattle.arch_file.specs.Reading.{arch_of}
use Rattle.net_file.specs.Netlist.{Netlist}
use Rattle.net_file.specs.Reading.{netlist_of}
use Rattle.place_file.specs.Placement.{Placement}
use Rattle.place_file.specs.Reading.{placement_of}
use Rattle.rr_graph.specs.node.Mode.{Mode}
use Rattle.rr_graph.specs.Problems.{RoutingProblem}
use Rattle.route_tree.specs.Paths.{Pair}
use Rattle.route_file.specs.Reading.{routing_of}
use Rattle.rr_graph.specs.Designs.{problem_with}
use Rattle.run_inputs.specs.declared.fault.InputFile.{InputFile}
use Rattle.run_inputs.specs.declared.fault.InputFile.TheVariants as file
use Rattle.run_inputs.specs.declared.fault.AppFault.{AppFault}
use Rattle.run_inputs.specs.declared.fault.AppFault.TheVariants.{Arch, Net, Place, Route, Unread, Unwritten, Memory, NoThread, Astray}
use Rattle.run_inputs.specs.Runs.{Input, DesignFiles, bytes_in}
use Rattle.vpr_text.specs.Readings.{with_fault, ◌>>=◌}

-- ---- what the bytes of a file say

abbrev pub arch_from : List ℕ → Result Architecture AppFault
arch_from bytes = with_fault Arch (arch_of bytes)

abbrev pub netlist_from : Architecture → List ℕ → Result Netlist AppFault
netlist_from a bytes = with_fault Net (netlist_of a.pins bytes)

abbrev pub placement_from : Architecture → Netlist → List ℕ → Result Placement AppFault
placement_from a netlist bytes = with_fault Place (placement_of a.io_rat netlist.blocks bytes)

abbrev pub routing_from : Netlist → RoutingProblem → List ℕ → Result (List (Option (List Pair))) AppFault
routing_from netlist problem bytes = with_fault Route (routing_of netlist problem bytes)

-- ---- what a file says, after those that are read before it

unfoldable pub arch_in : Input → Result Architecture AppFault
arch_in input = bytes_in file.Arch input >>= arch_from

unfoldable pub netlist_in : Architecture → Input → Result Netlist AppFault
netlist_in a input = bytes_in file.Net input >>= netlist_from a

unfoldable pub placement_in : Architecture → Netlist → Input → Result Placement AppFault
placement_in a netlist input = bytes_in file.Place input >>= placement_from a netlist

unfoldable pub routing_in : Netlist → RoutingProblem → Input → Result (List (Option (List Pair))) AppFault
routing_in netlist problem input = bytes_in file.Route input >>= routing_from netlist problem

-- ---- what the files of a design say

-- a netlist that is placed for an architecture, before a device of some width is chosen
pub record PlacedNetlist : Type 0 where
  pub arch : Architecture
  pub netlist : Netlist
  pub placement : Placement

abbrev pub placed_with : Architecture → Netlist → Placement → PlacedNetlist
placed_with a netlist p = record { arch = a; netlist = netlist; placement = p }

-- its problem on the device of its array, of this mode and width
abbrev pub placed_problem : Mode → PlacedNetlist → (width : ℕ) → RoutingProblem
placed_problem mode p = problem_with mode p.arch p.netlist p.placement

-- what the architecture, the netlist and its placement say
unfoldable pub placed_in : DesignFiles → Result PlacedNetlist AppFault
placed_in files =
    arch_in files.arch >>= λ a. netlist_in a files.net >>= λ n. placement_in a n files.place >>= λ p. Ok (placed_with a n p)

-- a placed design, and the problem of routing it on the device of its array
pub record PlacedDesign : Type 0 where
  pub netlist : Netlist
  pub placement : Placement
  pub problem : RoutingProblem

abbrev pub design_on : (width : ℕ) → Mode → PlacedNetlist → PlacedDesign
design_on width mode p = record { netlist = p.netlist; placement = p.placement; problem = placed_problem mode p width }

-- what these files say, for a device of this width and mode
unfoldable pub design_in : (width : ℕ) → Mode → DesignFiles → Result PlacedDesign AppFault
design_in width mode files = placed_in files >>= λ p. Ok (design_on width mode p)

-- what these files say, and then what a routing file says for their design, which `said` gives
unfoldable pub after_design : {X : Type 0} → (said : PlacedDesign → Input → Result X AppFault) → (width : ℕ) → Mode → DesignFiles → (route : Input) → Result X AppFault
after_design said width mode files route = design_in width mode files >>= λ d. said d route

-- ---- which file a run ended at

-- the place of a file in reading order
abbrev pub turn_of : InputFile → ℕ
turn_of file.Arch = 0
turn_of file.Net = 1
turn_of file.Place = 2
turn_of file.Route = 3

-- the file that a fault is in
abbrev pub file_of : AppFault → Option InputFile
file_of (Arch f) = Some file.Arch
file_of (Net f) = Some file.Net
file_of (Place f) = Some file.Place
file_of (Route f) = Some file.Route
file_of (Unread at) = Some at
file_of Unwritten = None
file_of Memory = None
file_of NoThread = None
file_of Astray = None

-- a run ended with a fault in a file that is read before this one
abbrev pub ends_before : {R : Type 0} → InputFile → Result R AppFault → Bool
ends_before later (Ok value) = false
ends_before later (Err f) = option_map_or (λ at. nat_lt (turn_of at) (turn_of later)) (file_of f) false
