-- Worked examples that compute: an array of one logic block with two pads at each place, and the
-- blocks a and b, which are pads, and c.
use Rattle.std.proofs.Common.{◌≡◌, ℕ, true, false, List, [], ◌∷◌, Some, None, Ok, refl}
use Rattle.std.specs.Prelude.{codes}
use Rattle.vpr_text.specs.Words.{Line}
use Rattle.vpr_text.specs.ArraySize.{begins_size_line}
use Rattle.vpr_text.specs.Word.{is_text}
use Rattle.net_file.specs.declared.terminal.BlockKind.{BlockKind}
use Rattle.net_file.specs.declared.terminal.BlockKind.TheVariants.{InputPad, LogicBlock}
use Rattle.net_file.specs.Names.{number_among}
use Rattle.net_file.specs.Netlist.{Block}
use Rattle.place_file.specs.declared.fault.PlaceFault.TheVariants.{BadLine, UnknownBlock, PlacedTwice, OffSite, Occupied}
use Rattle.place_file.specs.declared.site.Array.{Array}
use Rattle.place_file.specs.declared.site.Site.{Site}
use Rattle.place_file.specs.Judge.{header_fault, row_fault, rows_fault_from}
use Rattle.place_file.specs.Lines.{is_title, is_size_line, is_row}
use Rattle.place_file.specs.Placement.{Placement, is_site}
use Rattle.place_file.specs.Reading.{completed, placing, reading}
use Rattle.place_file.specs.Reads.{ReadsPlace}
use Rattle.place_file.specs.Sites.{site_in, sites_in, is_occupied}
use Rattle.place_file.proofs.Related.{reads_related}

abbrev one_block : Array
one_block = record { io_rat = 2; nx = 1; ny = 1 }

abbrev site : ℕ → ℕ → ℕ → Site
site x y subblk = record { x = x; y = y; subblk = subblk }

abbrev block : List ℕ → BlockKind → Block
block name kind = record { kind = kind; name = name; nets = [] }

abbrev blocks : List Block
blocks = block (codes "a") InputPad ∷ block (codes "b") InputPad ∷ block (codes "c") LogicBlock ∷ []

abbrev row : ℕ → List ℕ → List ℕ → List ℕ → List ℕ → Line
row n name x y subblk = record { number = n; words = name ∷ x ∷ y ∷ subblk ∷ [] }

-- a pad stands at the two positions beside the array and at no third, in no corner and not within
pub sites_of_pads : (is_site one_block InputPad (site 0 1 1) ≡ true) × (is_site one_block InputPad (site 0 1 2) ≡ false) × (is_site one_block InputPad (site 0 0 0) ≡ false) × (is_site one_block InputPad (site 1 1 0) ≡ false)
unfolding is_site
sites_of_pads = (refl, refl, refl, refl)

-- a logic block stands within, at position 0
pub sites_of_blocks : (is_site one_block LogicBlock (site 1 1 0) ≡ true) × (is_site one_block LogicBlock (site 1 1 1) ≡ false) × (is_site one_block LogicBlock (site 0 1 0) ≡ false)
unfolding is_site
sites_of_blocks = (refl, refl, refl)

abbrev first_row : Line
first_row = row 3 (codes "a") (codes "0") (codes "1") (codes "0")

-- after a's row: b on a's site, a again, a name that is none, c on the perimeter, a word too many
pub second_rows : (rows_fault_from one_block blocks [] (first_row ∷ row 4 (codes "b") (codes "0") (codes "1") (codes "1") ∷ []) ≡ None)
    × (rows_fault_from one_block blocks [] (first_row ∷ row 4 (codes "b") (codes "0") (codes "1") (codes "0") ∷ []) ≡ Some (Occupied 4))
    × (rows_fault_from one_block blocks [] (first_row ∷ row 4 (codes "a") (codes "0") (codes "1") (codes "1") ∷ []) ≡ Some (PlacedTwice 4))
    × (rows_fault_from one_block blocks [] (first_row ∷ row 4 (codes "z") (codes "0") (codes "1") (codes "1") ∷ []) ≡ Some (UnknownBlock 4))
    × (rows_fault_from one_block blocks [] (first_row ∷ row 4 (codes "c") (codes "0") (codes "1") (codes "1") ∷ []) ≡ Some (OffSite 4))
    × (rows_fault_from one_block blocks [] (first_row ∷ row 4 (codes "b") (codes "0") (codes "x") (codes "1") ∷ []) ≡ Some (BadLine 4))
unfolding rows_fault_from row_fault is_row is_site sites_in site_in is_occupied number_among
second_rows = (refl, refl, refl, refl, refl, refl)

-- a whole file, with its rows in another order than the blocks
abbrev whole_file : List Line
whole_file =
    record { number = 1; words = codes "Netlist" ∷ codes "file:" ∷ codes "n" ∷ codes "Architecture" ∷ codes "file:" ∷ codes "a" ∷ [] }
    ∷ record { number = 2; words = codes "Array" ∷ codes "size:" ∷ codes "1" ∷ codes "x" ∷ codes "1" ∷ codes "logic" ∷ codes "blocks" ∷ [] }
    ∷ row 3 (codes "c") (codes "1") (codes "1") (codes "0")
    ∷ row 4 (codes "a") (codes "0") (codes "1") (codes "1")
    ∷ row 5 (codes "b") (codes "0") (codes "1") (codes "0")
    ∷ []

abbrev as_placed : Placement
as_placed = record { nx = 1; ny = 1; sites = site 0 1 1 ∷ site 0 1 0 ∷ site 1 1 0 ∷ [] }

whole_read : reading 2 blocks whole_file ≡ Ok as_placed
unfolding reading header_fault is_title is_size_line begins_size_line placing rows_fault_from row_fault completed is_row is_site sites_in site_in is_occupied number_among is_text
whole_read = refl

pub whole_related : ReadsPlace 2 blocks whole_file as_placed
whole_related = reads_related 2 blocks whole_file as_placed whole_read
