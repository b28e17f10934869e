-- What the lines of a netlist must satisfy together, net by net (VPR and T-VPack manual 4.30; the
-- order of the faults is this project's profile).
use Rattle.std.specs.Prelude.{ℕ, Bool, not, ◌&&◌, ◌==◌, nat_lt, if◌then◌else◌, List, [], length, Option, None, Some, fold, slice_get, slice_index_or}
use Rattle.std.specs.Option.{option_map_or, option_or}
use Rattle.std.specs.List.{list_any, count_by}
use Rattle.net_file.specs.declared.connection.Connection.{Connection}
use Rattle.net_file.specs.declared.fault.NetFault.{NetFault}
use Rattle.net_file.specs.declared.fault.NetFault.TheVariants.{NoDriver, TwoDrivers, DoubleSink, GlobalPin}
use Rattle.net_file.specs.Blocks.{numbers_below}
use Rattle.net_file.specs.Connections.{is_sink}
use Rattle.net_file.specs.Names.{is_among}

-- how many pins drive the net
abbrev pub driver_count : List Connection → ℕ
driver_count connections = count_by (λ c. c.drives) connections

-- a pin takes the net's signal
abbrev pub has_sink : List Connection → Bool
has_sink connections = list_any is_sink connections

-- a net that isn't global and has a sink is routed
abbrev pub is_routed : Bool → List Connection → Bool
is_routed global connections = not global && has_sink connections

-- two pins of one input class of a block are on the net
abbrev pub has_double_sink : List Connection → Bool
has_double_sink connections = list_any (λ c. is_sink c && c.repeated) connections

-- a pin marked global is on the net
abbrev pub has_global_pin : List Connection → Bool
has_global_pin connections = list_any (λ c. c.marked) connections

-- the line of the net's first pinlist
abbrev pub line_of : List Connection → ℕ
line_of connections = option_map_or (λ c. c.line) (slice_get connections 0) 0

-- the first of the faults that a net with these connections has, in this order
unfoldable pub net_fault : Bool → List Connection → Option NetFault
net_fault global connections =
    if driver_count connections == 0 then Some (NoDriver (line_of connections))
    else (if nat_lt 1 (driver_count connections) then Some (TwoDrivers (line_of connections))
    else (if is_routed global connections && has_double_sink connections then Some (DoubleSink (line_of connections))
    else (if is_routed global connections && has_global_pin connections then Some (GlobalPin (line_of connections))
    else None)))

-- net n is global
abbrev pub is_global_net : List (List ℕ) → List (List ℕ) → ℕ → Bool
is_global_net nets globals n = is_among globals (slice_index_or nets n [])

-- the first fault of net n; rows has the connections of each net
abbrev pub fault_at : List (List ℕ) → List (List ℕ) → List (List Connection) → ℕ → Option NetFault
fault_at nets globals rows n = net_fault (is_global_net nets globals n) (slice_index_or rows n [])

-- the first fault of the least faulty net
unfoldable pub whole_fault : List (List ℕ) → List (List ℕ) → List (List Connection) → Option NetFault
whole_fault nets globals rows = fold (λ found n. option_or found (fault_at nets globals rows n)) None (numbers_below (length nets))
