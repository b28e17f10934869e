-- What the lines of a placement are (VPR and T-VPack manual 4.30). Words are counted from 0.
use Rattle.std.specs.Prelude.{ℕ, Bool, ◌&&◌, ◌==◌, List, length, drop, Option, unwrap_or, codes}
use Rattle.vpr_text.specs.Words.{Line, words_at}
use Rattle.vpr_text.specs.ArraySize.{begins_size_line}
use Rattle.vpr_text.specs.Word.{word_at, is_at, is_number, number_or_0}
use Rattle.net_file.specs.Facts.{names_of_blocks}
use Rattle.net_file.specs.Names.{number_among}
use Rattle.net_file.specs.Netlist.{Block}
use Rattle.place_file.specs.declared.site.Array.{Array}
use Rattle.place_file.specs.declared.site.Site.{Site}

-- the first line names the netlist and the architecture; the names are not compared
unfoldable pub is_title : List (List ℕ) → Bool
is_title words =
    length words == 6
    && is_at words 0 (codes "Netlist")
    && is_at words 1 (codes "file:")
    && is_at words 3 (codes "Architecture")
    && is_at words 4 (codes "file:")

-- the second line gives the size of the array
unfoldable pub is_size_line : List (List ℕ) → Bool
is_size_line words = begins_size_line words && is_at words 6 (codes "blocks")

-- the array whose size the second line gives
abbrev pub array_on : ℕ → List Line → Array
array_on io_rat lines = record { io_rat = io_rat; nx = number_or_0 (words_at lines 1) 2; ny = number_or_0 (words_at lines 1) 4 }

-- each further line is a row: a name, x, y and the position among the pads of the place
unfoldable pub is_row : List (List ℕ) → Bool
is_row words = length words == 4 && is_number words 1 && is_number words 2 && is_number words 3

-- the site that a row gives
abbrev pub site_on : List (List ℕ) → Site
site_on words = record { x = number_or_0 words 1; y = number_or_0 words 2; subblk = number_or_0 words 3 }

-- the number of the block that a row names, if there is one
abbrev pub block_named : List Block → List (List ℕ) → Option ℕ
block_named blocks words = number_among (names_of_blocks blocks) (word_at words 0)

-- the number of the block named; 0 where there is none, and then the row has a fault
abbrev pub block_on : List Block → List (List ℕ) → ℕ
block_on blocks words = unwrap_or (block_named blocks words) 0

-- the rows of a placement's lines
abbrev pub rows_of : List Line → List Line
rows_of lines = drop 2 lines
