-- The first fault of the lines of a placement, each row judged by the rows before it (VPR and
-- T-VPack manual 4.30; the order of the faults is this project's profile).
use Rattle.std.specs.Prelude.{ℕ, Bool, not, ◌&&◌, nat_lt, if◌then◌else◌, List, [], ◌∷◌, ◌++◌, length, Option, None, Some, is_some}
use Rattle.std.specs.Option.{option_or}
use Rattle.vpr_text.specs.Words.{Line, words_at, number_at}
use Rattle.net_file.specs.Netlist.{Block}
use Rattle.place_file.specs.declared.fault.PlaceFault.{PlaceFault}
use Rattle.place_file.specs.declared.fault.PlaceFault.TheVariants.{BadLine, ArraySize, UnknownBlock, PlacedTwice, OffSite, Occupied}
use Rattle.place_file.specs.declared.site.Array.{Array}
use Rattle.place_file.specs.declared.site.Site.{Site}
use Rattle.place_file.specs.Lines.{is_title, is_size_line, array_on, is_row, block_named, block_on, site_on}
use Rattle.place_file.specs.Placement.{is_inside, is_site, kind_at, longest_side}
use Rattle.place_file.specs.Sites.{sites_in, site_at, is_occupied}

-- 1 to 100 columns and rows of logic blocks
abbrev pub is_size : Array → Bool
is_size a = is_inside longest_side a.nx && is_inside longest_side a.ny

-- the fault of the two lines that a placement begins with; there are io_rat pads at a place
unfoldable pub header_fault : ℕ → List Line → Option PlaceFault
header_fault io_rat lines =
    if nat_lt 0 (length lines) && not (is_title (words_at lines 0)) then Some (BadLine (number_at lines 0))
    else (if nat_lt (length lines) 2 then Some (BadLine 0)
    else (if not (is_size_line (words_at lines 1)) then Some (BadLine (number_at lines 1))
    else (if not (is_size (array_on io_rat lines)) then Some (ArraySize (number_at lines 1))
    else None)))

-- the first of the faults that line n has, in this order
abbrev pub first_fault : ℕ → (bad unknown twice off occupied : Bool) → Option PlaceFault
first_fault n bad unknown twice off occupied =
    if bad then Some (BadLine n)
    else (if unknown then Some (UnknownBlock n)
    else (if twice then Some (PlacedTwice n)
    else (if off then Some (OffSite n)
    else (if occupied then Some (Occupied n)
    else None))))

-- the fault of a row; the blocks are on these sites before it
unfoldable pub row_fault : Array → List Block → List (Option Site) → ℕ → List (List ℕ) → Option PlaceFault
row_fault array blocks sites n words =
    first_fault n (not (is_row words))
    (not (is_some (block_named blocks words)))
    (is_some (site_at sites (block_on blocks words)))
    (not (is_site array (kind_at blocks (block_on blocks words)) (site_on words)))
    (is_occupied sites (site_on words))

-- the fault of the first faulty row, after those before it
unfoldable pub rows_fault_from : Array → List Block → List Line → List Line → Option PlaceFault
rows_fault_from array blocks before [] = None
rows_fault_from array blocks before (l ∷ ls) =
    option_or (row_fault array blocks (sites_in blocks before) l.number l.words) (rows_fault_from array blocks (before ++ l ∷ []) ls)
