-- What the lines of a netlist are (VPR and T-VPack manual 4.30). Words are counted from 0.
use Rattle.std.specs.Prelude.{ℕ, Bool, not, if◌then◌else◌, List, [], ◌∷◌, drop, filter, Option, None, Some, option_and_then, is_some, slice_get, codes, fold}
use Rattle.std.specs.List.{flat_map}
use Rattle.vpr_text.specs.Words.{Line}
use Rattle.vpr_text.specs.Word.{is_text, word_at, is_at}
use Rattle.net_file.specs.declared.terminal.BlockKind.{BlockKind}
use Rattle.net_file.specs.declared.terminal.BlockKind.TheVariants.{InputPad, OutputPad, LogicBlock}
use Rattle.net_file.specs.Names.{distinct}

-- the kind of block that an element's first word gives
unfoldable pub kind_of : List ℕ → Option BlockKind
kind_of word =
    if is_text word (codes ".input") then Some InputPad
    else (if is_text word (codes ".output") then Some OutputPad
    else (if is_text word (codes ".clb") then Some LogicBlock
    else None))

-- the kind of block whose element the line is, if it is one
abbrev pub kind_at : List (List ℕ) → Option BlockKind
kind_at words = option_and_then kind_of (slice_get words 0)

abbrev pub is_element : List (List ℕ) → Bool
is_element words = is_some (kind_at words)

abbrev pub is_pinlist : List (List ℕ) → Bool
is_pinlist words = is_at words 0 (codes "pinlist:")

abbrev pub is_subblock : List (List ℕ) → Bool
is_subblock words = is_at words 0 (codes "subblock:")

abbrev pub is_global : List (List ℕ) → Bool
is_global words = is_at words 0 (codes ".global")

-- the name that an element gives its block
abbrev pub name_in : List (List ℕ) → List ℕ
name_in words = word_at words 1

-- a pin that is connected to no net
abbrev pub is_open : List ℕ → Bool
is_open word = is_text word (codes "open")

-- the name of the block, the names of the nets, and the names of global nets that a line has
abbrev pub block_name_on : List (List ℕ) → List (List ℕ)
block_name_on words = if is_element words then (name_in words ∷ []) else []

abbrev pub net_names_on : List (List ℕ) → List (List ℕ)
net_names_on words = if is_pinlist words then filter (λ word. not (is_open word)) (drop 1 words) else []

abbrev pub global_names_on : List (List ℕ) → List (List ℕ)
global_names_on words = if is_global words then drop 1 words else []

-- the names of the blocks that lines have, each once
unfoldable pub block_names : List Line → List (List ℕ)
block_names lines = distinct (flat_map (λ l. block_name_on l.words) lines)

-- the nets that lines name in pinlists, each once, in the order of first appearance
unfoldable pub net_names : List Line → List (List ℕ)
net_names lines = distinct (flat_map (λ l. net_names_on l.words) lines)

-- the nets that lines make global, each once
unfoldable pub global_names : List Line → List (List ℕ)
global_names lines = distinct (flat_map (λ l. global_names_on l.words) lines)

-- the kind of the block whose element waits for its pinlist after these lines: that of the last one
unfoldable pub opened : List Line → Option BlockKind
opened lines = fold (λ _ l. kind_at l.words) None lines

-- the kind of the last block that the lines begin
unfoldable pub latest : List Line → Option BlockKind
latest lines = fold (λ kind l. if is_element l.words then kind_at l.words else kind) None lines
