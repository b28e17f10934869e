-- A device: an array of logic blocks of one architecture, with channels of one width between them
-- (VPR and T-VPack manual 4.30; Betz, Rose and Marquardt 1999, "routing-resource graph").
use Rattle.std.specs.Prelude.{ℕ, ◌+◌, ◌≤◌, ◌==◌, Bool, ◌&&◌, ◌||◌, nat_le, List}
use Rattle.std.specs.List.{range_with_len}
use Rattle.arch_file.specs.Architecture.{Architecture, IsWithinLimits}
pub use Rattle.arch_file.specs.Architecture.{longest_side}
use Rattle.channel_tables.specs.declared.layout.TheConstants.{MOST_TRACKS}
use Rattle.channel_tables.specs.declared.node.Mode.{Mode}

pub record Fabric : Type 0 where
  pub architecture : Architecture
  -- columns and rows of logic blocks
  pub nx : ℕ
  pub ny : ℕ
  -- tracks in each channel
  pub width : ℕ
  pub mode : Mode

-- the device of an architecture
abbrev pub fabric_with : (nx ny width : ℕ) → Mode → Architecture → Fabric
fabric_with nx ny width mode a = record { architecture = a; nx = nx; ny = ny; width = width; mode = mode }

-- the most tracks of a channel (this project's profile)
abbrev pub most_tracks : ℕ
most_tracks = MOST_TRACKS

-- the limits that every device keeps (this project's profile)
pub record IsFabric (f : Fabric) : Type 0 where
  pub some_columns : 1 ≤ f.nx
  pub few_columns : f.nx ≤ longest_side
  pub some_rows : 1 ≤ f.ny
  pub few_rows : f.ny ≤ longest_side
  pub some_tracks : 1 ≤ f.width
  pub few_tracks : f.width ≤ most_tracks
  pub limits : IsWithinLimits f.architecture

-- 0, 1, .. up to n - 1
abbrev pub numbers_below : ℕ → List ℕ
numbers_below n = range_with_len 0 n

-- n is from low to high, both included
abbrev pub is_between : ℕ → ℕ → ℕ → Bool
is_between low high n = nat_le low n && nat_le n high

-- a logic block is at (x, y)
abbrev pub is_block : Fabric → ℕ → ℕ → Bool
is_block f x y = is_between 1 f.nx x && is_between 1 f.ny y

-- pads are at (x, y): a place of the perimeter that is no corner
abbrev pub is_pad : Fabric → ℕ → ℕ → Bool
is_pad f x y = ((x == 0 || x == f.nx + 1) && is_between 1 f.ny y) || ((y == 0 || y == f.ny + 1) && is_between 1 f.nx x)
