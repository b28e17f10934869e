-- A netlist file as a list of lines, read line by line: what is read, or the first fault (VPR and
-- T-VPack manual 4.30; the faults and their order are this project's profile).
use Rattle.std.specs.Prelude.{ℕ, Bool, if◌then◌else◌, List, [], ◌∷◌, ◌++◌, length, map, filter, find, Option, None, Some, unwrap_or, is_some, slice_index_or, Result, Ok}
use Rattle.std.specs.Option.{option_map}
use Rattle.vpr_text.specs.Readings.{◌>>=◌, unless_faulty, with_fault}
use Rattle.vpr_text.specs.Words.{Line}
use Rattle.vpr_text.specs.Text.{lines_of}
use Rattle.arch_file.specs.declared.entries.Pin.{Pin}
use Rattle.net_file.specs.declared.connection.Connection.{Connection}
use Rattle.net_file.specs.declared.fault.LineFault.{LineFault}
use Rattle.net_file.specs.declared.fault.LineFault.TheVariants.{BadLine, PinCount, DoubleName, TooMany}
use Rattle.net_file.specs.declared.fault.NetFault.{NetFault}
use Rattle.net_file.specs.declared.fault.NetFault.TheVariants as net
use Rattle.net_file.specs.declared.terminal.Terminal.{Terminal}
use Rattle.net_file.specs.Blocks.{numbers_below, blocks_of, pinlist_numbers}
use Rattle.net_file.specs.Connections.{connections, by_net, is_sink}
use Rattle.net_file.specs.Judge.{fault_of_next}
use Rattle.net_file.specs.Lines.{net_names, global_names, opened}
use Rattle.net_file.specs.Netlist.{Netlist, Block, Net}
use Rattle.net_file.specs.WholeFile.{is_global_net, whole_fault}

-- the fault of a netlist whose line n has this one
abbrev pub at_line : LineFault → ℕ → NetFault
at_line BadLine n = net.BadLine n
at_line PinCount n = net.PinCount n
at_line DoubleName n = net.DoubleName n
at_line TooMany n = net.TooMany n

abbrev pub or_else : Option LineFault → ℕ → Option NetFault → Option NetFault
or_else (Some fault) n rest = Some (at_line fault n)
or_else None n rest = rest

-- the fault of the first faulty line, after those before it; at the end no element waits for its
-- pinlist
unfoldable pub line_fault_from : ℕ → List Line → List Line → Option NetFault
line_fault_from pins before [] = if is_some (opened before) then Some (net.BadLine 0) else None
line_fault_from pins before (l ∷ ls) = or_else (fault_of_next pins before l) l.number (line_fault_from pins (before ++ l ∷ []) ls)

-- what drives the net with these connections, and what takes its signal
abbrev pub driver_of : List Connection → Terminal
driver_of row = unwrap_or (option_map (λ c. c.terminal) (find (λ c. c.drives) row)) (record { block = 0; class = None })

abbrev pub sinks_of : List Connection → List Terminal
sinks_of row = map (λ c. c.terminal) (filter is_sink row)

-- the net whose name and connections these are
unfoldable pub net_from : List ℕ → Bool → List Connection → Net
net_from name global row = record { name = name; global = global; driver = driver_of row; sinks = sinks_of row }

-- net n
unfoldable pub net_at : List (List ℕ) → List (List ℕ) → List (List Connection) → ℕ → Net
net_at nets globals rows n = net_from (slice_index_or nets n []) (is_global_net nets globals n) (slice_index_or rows n [])

unfoldable pub nets_of : List (List ℕ) → List (List ℕ) → List (List Connection) → List Net
nets_of nets globals rows = map (net_at nets globals rows) (numbers_below (length nets))

-- the connections of each net of the lines
unfoldable pub rows_of : List Pin → List (List ℕ) → List Line → List (List Connection)
rows_of pins nets lines = by_net (connections pins (pinlist_numbers lines) (blocks_of nets lines)) (length nets)

-- blocks and nets with these connections: the fault of the least faulty net, else the netlist
unfoldable pub completed : List (List ℕ) → List (List ℕ) → List Block → List (List Connection) → Result Netlist NetFault
completed nets globals blocks rows = unless_faulty (whole_fault nets globals rows) (Ok (record { blocks = blocks; nets = nets_of nets globals rows }))

-- lines as a netlist: the fault of the first faulty line comes first
unfoldable pub reading : List Pin → List Line → Result Netlist NetFault
reading pins lines =
    unless_faulty (line_fault_from (length pins) [] lines)
    (completed (net_names lines) (global_names lines) (blocks_of (net_names lines) lines) (rows_of pins (net_names lines) lines))

-- bytes as a netlist, for an architecture with these pins
unfoldable pub netlist_of : List Pin → List ℕ → Result Netlist NetFault
netlist_of pins bytes = with_fault net.Text (lines_of bytes) >>= reading pins
