-- The connections of nets and pins (VPR and T-VPack manual 4.30).
use Rattle.std.specs.Prelude.{ℕ, Bool, true, false, not, ◌&&◌, ◌==◌, nat_eq, List, [], length, map, filter, Option, None, Some, unwrap_or, slice_get, slice_index, slice_index_or}
use Rattle.std.specs.Option.{option_map, option_map_or, option_eq}
use Rattle.std.specs.List.{filter_map, flat_map, list_any}
use Rattle.arch_file.specs.declared.entries.Pin.{Pin}
use Rattle.arch_file.specs.declared.entries.Direction.{Direction}
use Rattle.arch_file.specs.declared.entries.Direction.TheVariants.{Input, Output}
use Rattle.net_file.specs.declared.connection.Connection.{Connection}
use Rattle.net_file.specs.declared.connection.Role.{Role}
use Rattle.net_file.specs.declared.terminal.BlockKind.{BlockKind}
use Rattle.net_file.specs.declared.terminal.BlockKind.TheVariants.{InputPad, OutputPad, LogicBlock}
use Rattle.net_file.specs.Blocks.{numbers_below}
use Rattle.net_file.specs.Netlist.{Block}

abbrev pub is_output : Direction → Bool
is_output Input = false
is_output Output = true

-- what a pin of the architecture is to its net: an output pin drives it
abbrev pub role_of_pin : Pin → Role
role_of_pin pin = record { class = Some pin.class; drives = is_output pin.direction; marked = pin.global }

-- what the pin of a pad is to its net
abbrev pub role_of_pad : Bool → Role
role_of_pad drives = record { class = None; drives = drives; marked = false }

-- what pin p of a block is to its net: an input pad drives it
abbrev pub role_of : List Pin → BlockKind → ℕ → Role
role_of pins InputPad p = role_of_pad true
role_of pins OutputPad p = role_of_pad false
role_of pins LogicBlock p = option_map_or role_of_pin (slice_get pins p) (role_of_pad false)

-- the net at pin p of a block
abbrev pub net_at : Block → ℕ → Option ℕ
net_at block p = unwrap_or (slice_get block.nets p) None

-- pins q and p of a block are of one class and on one net
abbrev pub are_alike : List Pin → Block → ℕ → ℕ → Bool
are_alike pins block p q =
    option_eq nat_eq (role_of pins block.kind q).class (role_of pins block.kind p).class && option_eq nat_eq (net_at block q) (net_at block p)

-- a pin before p is of its class and on its net
unfoldable pub is_repeated : List Pin → Block → ℕ → Bool
is_repeated pins block p = list_any (are_alike pins block p) (numbers_below p)

-- how pin p of block number b is connected, if it is; its pinlist is on this line
unfoldable pub connection_at : List Pin → ℕ → ℕ → Block → ℕ → Option Connection
connection_at pins line b block p =
    option_map
    (λ net. record {
      net = net;
      terminal = record { block = b; class = (role_of pins block.kind p).class };
      drives = (role_of pins block.kind p).drives;
      marked = (role_of pins block.kind p).marked;
      repeated = is_repeated pins block p;
      line = line;
    })
    (net_at block p)

-- the connections of block number b, pin by pin
unfoldable pub connections_of : List Pin → ℕ → ℕ → Block → List Connection
connections_of pins line b block = filter_map (connection_at pins line b block) (numbers_below (length block.nets))

-- what is past the last block
abbrev pub no_block : Block
no_block = record { kind = InputPad; name = []; nets = [] }

-- the connections of block number b; the lines of the pinlists have these numbers
abbrev pub connections_at : List Pin → List ℕ → List Block → ℕ → List Connection
connections_at pins numbers blocks b = connections_of pins (slice_index numbers b) b (slice_index_or blocks b no_block)

-- all connections, block by block
unfoldable pub connections : List Pin → List ℕ → List Block → List Connection
connections pins numbers blocks = flat_map (connections_at pins numbers blocks) (numbers_below (length blocks))

-- the connections of net n
unfoldable pub on_net : List Connection → ℕ → List Connection
on_net connections n = filter (λ c. c.net == n) connections

-- the connections of each net, for this many nets
unfoldable pub by_net : List Connection → ℕ → List (List Connection)
by_net connections count = map (on_net connections) (numbers_below count)

-- a pin that takes the net's signal
abbrev pub is_sink : Connection → Bool
is_sink c = not c.drives
