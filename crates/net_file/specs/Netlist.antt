-- A netlist as the record of its blocks and nets (VPR and T-VPack manual 4.30, "The Netlist File
-- Format").
use Rattle.std.specs.Prelude.{ℕ, Bool, List, Option}
use Rattle.net_file.specs.declared.terminal.BlockKind.{BlockKind}
use Rattle.net_file.specs.declared.terminal.Terminal.{Terminal}

-- a block: its kind, the bytes of its name, and for each of its pins the number of the net there,
-- if there is one
pub record Block : Type 0 where
  pub kind : BlockKind
  pub name : List ℕ
  pub nets : List (Option ℕ)

-- a net: the bytes of its name, what drives it, and what takes its signal, in the order of the
-- blocks and their pins
pub record Net : Type 0 where
  pub name : List ℕ
  pub global : Bool
  pub driver : Terminal
  pub sinks : List Terminal

-- blocks are numbered in the order of their elements, nets in the order in which pinlists first
-- name them
pub record Netlist : Type 0 where
  pub blocks : List Block
  pub nets : List Net
