-- The sites that rows give to blocks.
use Rattle.std.specs.Prelude.{ℕ, Bool, false, ◌&&◌, ◌==◌, List, length, map, find, Option, None, slice_index_or}
use Rattle.std.specs.Option.{option_map, option_map_or}
use Rattle.std.specs.List.{list_any, range_with_len}
use Rattle.vpr_text.specs.Words.{Line}
use Rattle.net_file.specs.Netlist.{Block}
use Rattle.place_file.specs.declared.site.Site.{Site}
use Rattle.place_file.specs.Lines.{block_on, site_on}

-- the row is that of block b
abbrev pub is_row_of : List Block → ℕ → Line → Bool
is_row_of blocks b row = block_on blocks row.words == b

-- the site of block b by these rows, if one of them gives it
unfoldable pub site_in : List Block → List Line → ℕ → Option Site
site_in blocks rows b = option_map (λ row. site_on row.words) (find (is_row_of blocks b) rows)

-- the sites of all blocks by these rows
unfoldable pub sites_in : List Block → List Line → List (Option Site)
sites_in blocks rows = map (site_in blocks rows) (range_with_len 0 (length blocks))

abbrev pub same_site : Site → Site → Bool
same_site s t = s.x == t.x && s.y == t.y && s.subblk == t.subblk

abbrev pub is_on : Site → Option Site → Bool
is_on s site = option_map_or (same_site s) site false

-- a block is on the site
unfoldable pub is_occupied : List (Option Site) → Site → Bool
is_occupied sites s = list_any (is_on s) sites

-- the site of block b
abbrev pub site_at : List (Option Site) → ℕ → Option Site
site_at sites b = slice_index_or sites b None
