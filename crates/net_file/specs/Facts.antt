-- What is true of every netlist (VPR and T-VPack manual 4.30; the limits are this project's
-- profile).
use Rattle.std.specs.Prelude.{◌≡◌, ℕ, ◌<◌, ◌≤◌, All, List, length, map, is_some, IfSome, slice_index_or}
use Rattle.vpr_text.specs.Text.{IsWord}
use Rattle.net_file.specs.declared.terminal.Terminal.{Terminal}
use Rattle.net_file.specs.Connections.{no_block}
use Rattle.net_file.specs.Judge.{is_logic_block}
use Rattle.net_file.specs.Names.{AreDifferent}
use Rattle.net_file.specs.Netlist.{Block, Net, Netlist}

-- the names of blocks and of nets, by number
abbrev pub names_of_blocks : List Block → List (List ℕ)
names_of_blocks blocks = map (λ b. b.name) blocks

abbrev pub names_of_nets : List Net → List (List ℕ)
names_of_nets nets = map (λ n. n.name) nets

-- the terminal is at one of the blocks, and has a class exactly where that is a logic block
pub record IsTerminal (blocks : List Block) (t : Terminal) : Type 0 where
  pub there : t.block < length blocks
  pub class : is_some t.class ≡ is_logic_block (slice_index_or blocks t.block no_block).kind

-- a netlist keeps the limits, names are words and no two are the same, and pins and terminals refer
-- to nets and blocks that are there
pub record IsNetlist (n : Netlist) : Type 0 where
  pub few_blocks : length n.blocks ≤ 20000
  pub few_nets : length n.nets ≤ 65535
  pub block_names : All IsWord (names_of_blocks n.blocks)
  pub net_names : All IsWord (names_of_nets n.nets)
  pub blocks_differ : AreDifferent (names_of_blocks n.blocks)
  pub nets_differ : AreDifferent (names_of_nets n.nets)
  pub pins : All (λ block. All (λ pin. IfSome pin (λ net. net < length n.nets)) block.nets) n.blocks
  pub drivers : All (λ net. IsTerminal n.blocks net.driver) n.nets
  pub sinks : All (λ net. All (IsTerminal n.blocks) net.sinks) n.nets
