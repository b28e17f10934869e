-- A placement, and what it is to be placed (VPR and T-VPack manual 4.30, "The Placement File
-- Format").
use Rattle.std.specs.Prelude.{◌≡◌, ℕ, ◌+◌, ◌≤◌, Bool, true, ◌&&◌, ◌||◌, ◌==◌, nat_le, nat_lt, List, length, Some, slice_get, slice_index_or}
pub use Rattle.arch_file.specs.Architecture.{longest_side}
use Rattle.net_file.specs.declared.terminal.BlockKind.{BlockKind}
use Rattle.net_file.specs.declared.terminal.BlockKind.TheVariants.{InputPad, OutputPad, LogicBlock}
use Rattle.net_file.specs.Connections.{no_block}
use Rattle.net_file.specs.Netlist.{Block}
use Rattle.place_file.specs.declared.site.Array.{Array}
use Rattle.place_file.specs.declared.site.Site.{Site}

-- the size of the array of logic blocks, and the site of each block, by its number
pub record Placement : Type 0 where
  pub nx : ℕ
  pub ny : ℕ
  pub sites : List Site

-- the limits that every placement keeps (this project's profile)
pub record IsWithinLimits (p : Placement) : Type 0 where
  pub some_columns : 1 ≤ p.nx
  pub few_columns : p.nx ≤ longest_side
  pub some_rows : 1 ≤ p.ny
  pub few_rows : p.ny ≤ longest_side

abbrev pub is_inside : ℕ → ℕ → Bool
is_inside n v = nat_le 1 v && nat_le v n

abbrev pub is_beside : ℕ → ℕ → Bool
is_beside n v = (v == 0) || (v == n + 1)

-- a place within the array of logic blocks
abbrev pub is_within : Array → Site → Bool
is_within a s = is_inside a.nx s.x && is_inside a.ny s.y

-- a place beside the array; a corner is none
abbrev pub is_on_perimeter : Array → Site → Bool
is_on_perimeter a s = (is_beside a.nx s.x && is_inside a.ny s.y) || (is_inside a.nx s.x && is_beside a.ny s.y)

-- the sites of logic blocks are within the array, and those of pads beside it, io_rat at each place
unfoldable pub is_site : Array → BlockKind → Site → Bool
is_site a LogicBlock s = is_within a s && s.subblk == 0
is_site a InputPad s = is_on_perimeter a s && nat_lt s.subblk a.io_rat
is_site a OutputPad s = is_on_perimeter a s && nat_lt s.subblk a.io_rat

abbrev pub kind_at : List Block → ℕ → BlockKind
kind_at blocks b = (slice_index_or blocks b no_block).kind

abbrev pub array_of : ℕ → Placement → Array
array_of io_rat p = record { io_rat = io_rat; nx = p.nx; ny = p.ny }

-- all blocks are on sites of their kind, and different blocks on different sites
pub record IsPlaced (io_rat : ℕ) (blocks : List Block) (p : Placement) : Type 0 where
  pub all : length p.sites ≡ length blocks
  pub fitting : (b : ℕ) (s : Site) → slice_get p.sites b ≡ Some s → is_site (array_of io_rat p) (kind_at blocks b) s ≡ true
  pub apart : (a b : ℕ) (s : Site) → slice_get p.sites a ≡ Some s → slice_get p.sites b ≡ Some s → a ≡ b
