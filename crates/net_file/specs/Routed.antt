-- Which nets of a netlist are routed (VPR and T-VPack manual 4.30).
use Rattle.std.specs.Prelude.{ℕ, Bool, false, not, ◌&&◌, nat_lt, List, [], length, filter, None, slice_index_or}
use Rattle.net_file.specs.Blocks.{numbers_below}
use Rattle.net_file.specs.Netlist.{Netlist, Net}

-- what is past the last net
abbrev pub no_net : Net
no_net = record { name = []; global = false; driver = record { block = 0; class = None }; sinks = [] }

-- a dedicated network doesn't carry the net, and something takes its signal
abbrev pub is_routed_net : Net → Bool
is_routed_net net = not net.global && nat_lt 0 (length net.sinks)

-- net n is routed
abbrev pub is_routed_at : Netlist → ℕ → Bool
is_routed_at netlist n = is_routed_net (slice_index_or netlist.nets n no_net)

-- the numbers of the routed nets, ascending
unfoldable pub routed_numbers : Netlist → List ℕ
routed_numbers netlist = filter (is_routed_at netlist) (numbers_below (length netlist.nets))
