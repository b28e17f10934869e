-- Which placement a text is, for these blocks and io_rat pads at a place (VPR and T-VPack manual
-- 4.30, "The Placement File Format").
use Rattle.std.specs.Prelude.{◌≡◌, ℕ, ◌<◌, true, List, ◌∷◌, length, Some, Ok, slice_get}
use Rattle.vpr_text.specs.Words.{Line, words_at}
use Rattle.vpr_text.specs.Text.{lines_of}
use Rattle.vpr_text.specs.Word.{number_or_0}
use Rattle.net_file.specs.Netlist.{Block}
use Rattle.place_file.specs.Lines.{is_title, is_size_line, is_row, block_named, site_on}
use Rattle.place_file.specs.Placement.{Placement, IsWithinLimits, IsPlaced}

-- row i is that of block b: the block's name, and the numbers of the site on which it is placed
pub record IsRowOf (blocks : List Block) (p : Placement) (rows : List Line) (b i : ℕ) : Type 0 where
  pub there : i < length rows
  pub form : is_row (words_at rows i) ≡ true
  pub name : block_named blocks (words_at rows i) ≡ Some b
  pub site : slice_get p.sites b ≡ Some (site_on (words_at rows i))

-- in any order, there is one row for each block, and no other row
pub record AreRows (blocks : List Block) (p : Placement) (rows : List Line) : Type 0 where
  pub each_row : (i : ℕ) → i < length rows → (b : ℕ) × IsRowOf blocks p rows b i
  pub each_block : (b : ℕ) → b < length blocks → (i : ℕ) × IsRowOf blocks p rows b i
  pub once : (b i j : ℕ) → IsRowOf blocks p rows b i → IsRowOf blocks p rows b j → i ≡ j

-- a title, the size of the array, and the rows; and the blocks are placed
pub record ReadsPlace (io_rat : ℕ) (blocks : List Block) (lines : List Line) (p : Placement) : Type 0 where
  pub title : Line
  pub size : Line
  pub rows : List Line
  pub whole : lines ≡ title ∷ size ∷ rows
  pub title_line : is_title title.words ≡ true
  pub size_line : is_size_line size.words ≡ true
  pub nx : p.nx ≡ number_or_0 size.words 2
  pub ny : p.ny ≡ number_or_0 size.words 4
  pub limits : IsWithinLimits p
  pub one_row_each : AreRows blocks p rows
  pub placed : IsPlaced io_rat blocks p

-- the bytes are a text without faults, and its lines are read as this placement
pub record ReadsBytes (io_rat : ℕ) (blocks : List Block) (bytes : List ℕ) (p : Placement) : Type 0 where
  pub lines : List Line
  pub is_text : lines_of bytes ≡ Ok lines
  pub reads : ReadsPlace io_rat blocks lines p
