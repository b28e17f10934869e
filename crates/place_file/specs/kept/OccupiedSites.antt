-- How the occupied sites are kept.
use Rattle.std.specs.Prelude.{◌≡◌, ℕ, ◌+◌, ◌*◌, ◌≤◌, true, false, ◌&&◌, nat_lt, Bool, List, length, Option, slice_index_or}
use Rattle.arch_file.specs.Architecture.{most_pads}
use Rattle.place_file.specs.declared.site.Array.{Array}
use Rattle.place_file.specs.declared.site.Site.{Site}
use Rattle.place_file.specs.Sites.{is_occupied}
use Rattle.place_file.specs.Placement.{longest_side}

-- an array of 1 to 100 columns and rows, with at most 16 pads at a place
pub record IsFit (a : Array) : Type 0 where
  pub pads : a.io_rat ≤ most_pads
  pub some_columns : 1 ≤ a.nx
  pub columns : a.nx ≤ longest_side
  pub some_rows : 1 ≤ a.ny
  pub rows : a.ny ≤ longest_side

-- which sites of an array the blocks have, by their numbers
pub record SitesOn : Type 0 where
  pub array : Array
  pub sites : List (Option Site)

-- a column beside the array on both sides; the highest has places 0 to 101, with at most 16 pads
-- each
abbrev pub is_in_table : Array → Site → Bool
is_in_table a s = nat_lt s.x (a.nx + 2) && nat_lt s.y 102 && nat_lt s.subblk 16

abbrev pub table_size : Array → ℕ
table_size a = (a.nx + 2) * 1632

-- the entry of a site in the table
abbrev pub entry_of : Site → ℕ
entry_of s = s.x * 1632 + s.y * 16 + s.subblk

-- the table says for each site whether a block is there
pub record IsTable (array : Array) (sites : List (Option Site)) (taken : List Bool) : Type 0 where
  pub size : length taken ≡ table_size array
  pub tells : (s : Site) → is_in_table array s ≡ true → slice_index_or taken (entry_of s) false ≡ is_occupied sites s
