-- What the fields of a `Netlist` mean.
use Rattle.std.specs.Prelude.{◌≡◌}
use Rattle.net_file.specs.declared.netlist.Netlist.TheInside.{Inside}
use Rattle.net_file.specs.Facts.{names_of_blocks, names_of_nets, IsNetlist}
use Rattle.net_file.specs.Netlist.{Netlist}

abbrev pub netlist_in : Inside → Netlist
netlist_in n = record { blocks = n.blocks.items; nets = n.nets.items }

-- it is a netlist, whose names are kept with it
pub record IsIndexed (n : Inside) : Type 0 where
  pub netlist : IsNetlist (netlist_in n)
  pub block_names : n.block_names ≡ names_of_blocks n.blocks.items
  pub net_names : n.net_names ≡ names_of_nets n.nets.items
