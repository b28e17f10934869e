-- Faults of the program: their exit status and their texts (ours).
use Rattle.std.specs.Prelude.{ℕ, Bool, true, false, if◌then◌else◌, List, ◌++◌, codes, decimal, Result, Ok, Err}
use Rattle.net_workers.specs.declared.fault.WorkFault.{WorkFault}
use Rattle.net_workers.specs.declared.fault.WorkFault.TheVariants as work
use Rattle.run_inputs.specs.declared.fault.InputFile.{InputFile}
use Rattle.run_inputs.specs.declared.fault.InputFile.TheVariants as input
use Rattle.run_inputs.specs.declared.fault.AppFault.{AppFault}
use Rattle.run_inputs.specs.declared.fault.AppFault.TheVariants.{Arch, Net, Place, Route, Unread, Unwritten, Memory, NoThread, Astray}
use Rattle.arch_file.specs.declared.fault.ArchFault.{ArchFault}
use Rattle.arch_file.specs.Faults.{arch_line, arch_name, is_arch_memory}
use Rattle.net_file.specs.declared.fault.NetFault.{NetFault}
use Rattle.net_file.specs.Faults.{net_line, net_name, is_net_memory}
use Rattle.place_file.specs.declared.fault.PlaceFault.{PlaceFault}
use Rattle.place_file.specs.Faults.{place_line, place_name, is_place_memory}
use Rattle.route_file.specs.declared.fault.RouteFileFault.{RouteFileFault}
use Rattle.route_file.specs.Faults.{route_line, route_name, is_route_memory}

-- 4 for bad input, 5 if reading or writing failed, 6 for the free faults
abbrev pub status_of : AppFault → ℕ
status_of (Arch f) = 4
status_of (Net f) = 4
status_of (Place f) = 4
status_of (Route f) = 4
status_of (Unread file) = 5
status_of Unwritten = 5
status_of Memory = 6
status_of NoThread = 6
status_of Astray = 6

abbrev pub input_text : InputFile → List ℕ
input_text input.Arch = codes "arch"
input_text input.Net = codes "net"
input_text input.Place = codes "place"
input_text input.Route = codes "route"

-- a fault in an input file, as `error: arch line 3: BadWord`
unfoldable pub line_fault_text : List ℕ → ℕ → List ℕ → List ℕ
line_fault_text file line name = codes "error: " ++ (file ++ (codes " line " ++ (decimal line ++ (codes ": " ++ (name ++ codes "\n")))))

-- an input file that cannot be read, as `error: arch cannot be read`
unfoldable pub unread_text : List ℕ → List ℕ
unread_text file = codes "error: " ++ (file ++ codes " cannot be read\n")

-- a fault as it is printed
abbrev pub fault_text : AppFault → List ℕ
fault_text (Arch f) = line_fault_text (codes "arch") (arch_line f) (arch_name f)
fault_text (Net f) = line_fault_text (codes "net") (net_line f) (net_name f)
fault_text (Place f) = line_fault_text (codes "place") (place_line f) (place_name f)
fault_text (Route f) = line_fault_text (codes "route") (route_line f) (route_name f)
fault_text (Unread file) = unread_text (input_text file)
fault_text Unwritten = codes "error: cannot write\n"
fault_text Memory = codes "error: memory\n"
fault_text NoThread = codes "error: no thread\n"
fault_text Astray = codes "error: astray\n"

-- the fault of a run with this fault in one of its files: lack of memory is the run's own fault
abbrev pub fault_of_arch : ArchFault → AppFault
fault_of_arch f = if is_arch_memory f then Memory else Arch f

abbrev pub fault_of_net : NetFault → AppFault
fault_of_net f = if is_net_memory f then Memory else Net f

abbrev pub fault_of_place : PlaceFault → AppFault
fault_of_place f = if is_place_memory f then Memory else Place f

abbrev pub fault_of_route : RouteFileFault → AppFault
fault_of_route f = if is_route_memory f then Memory else Route f

-- the fault of a run whose negotiation has this one
abbrev pub fault_of_work : WorkFault → AppFault
fault_of_work work.NoThread = NoThread
fault_of_work work.Memory = Memory
fault_of_work work.Astray = Astray

-- the faults that no clause rules out: lack of memory, a thread that can't be started, and a worker
-- that went astray
abbrev pub is_free : AppFault → Bool
is_free (Arch f) = false
is_free (Net f) = false
is_free (Place f) = false
is_free (Route f) = false
is_free (Unread file) = false
is_free Unwritten = false
is_free Memory = true
is_free NoThread = true
is_free Astray = true

-- a run ended with such a fault
abbrev pub ends_free : {R : Type 0} → Result R AppFault → Bool
ends_free (Ok value) = false
ends_free (Err f) = is_free f
