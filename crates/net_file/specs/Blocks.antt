-- The blocks that accepted lines describe, each by an element and the pinlist after it (VPR and
-- T-VPack manual 4.30).
use Rattle.std.specs.Prelude.{ℕ, ◌-◌, if◌then◌else◌, List, length, drop, map, filter, Option, None, unwrap_or}
use Rattle.std.specs.List.{range_with_len}
use Rattle.vpr_text.specs.Words.{Line, words_at, number_at}
use Rattle.net_file.specs.declared.terminal.BlockKind.TheVariants.{InputPad}
use Rattle.net_file.specs.Lines.{kind_at, name_in, is_pinlist, is_open}
use Rattle.net_file.specs.Names.{number_among}
use Rattle.net_file.specs.Netlist.{Block}

-- 0, 1, .. up to n - 1
abbrev pub numbers_below : ℕ → List ℕ
numbers_below n = range_with_len 0 n

-- the number of the net that a word of a pinlist names
abbrev pub net_of : List (List ℕ) → List ℕ → Option ℕ
net_of nets word = if is_open word then None else number_among nets word

-- the block of an element and its pinlist
unfoldable pub block_of : List (List ℕ) → List (List ℕ) → List (List ℕ) → Block
block_of nets element pinlist =
    record {
      kind = unwrap_or (kind_at element) InputPad;
      name = name_in element;
      nets = map (net_of nets) (drop 1 pinlist);
    }

-- the places of the pinlists among the lines
unfoldable pub pinlists : List Line → List ℕ
pinlists lines = filter (λ i. is_pinlist (words_at lines i)) (numbers_below (length lines))

-- the block whose pinlist is line i: its element is the line before
unfoldable pub block_at : List (List ℕ) → List Line → ℕ → Block
block_at nets lines i = block_of nets (words_at lines (i - 1)) (words_at lines i)

-- the blocks of the lines, for nets with these names, and the numbers of the lines of their
-- pinlists
unfoldable pub blocks_of : List (List ℕ) → List Line → List Block
blocks_of nets lines = map (block_at nets lines) (pinlists lines)

unfoldable pub pinlist_numbers : List Line → List ℕ
pinlist_numbers lines = map (number_at lines) (pinlists lines)
