-- The words of a node's line: there `(`, `,` and `)` separate words too (VPR and T-VPack manual
-- 4.30, "Routing File Format").
use Rattle.std.specs.Prelude.{ℕ, Bool, ◌||◌, ◌==◌, List, filter}
use Rattle.std.specs.List.{flat_map, slice_split}
use Rattle.vpr_text.specs.Words.{is_filled}

-- `(`, `)` and `,`
abbrev pub is_mark : ℕ → Bool
is_mark b = (b == 40) || (b == 41) || (b == 44)

-- the pieces of a word between such bytes, without the empty ones
unfoldable pub pieces_of : List ℕ → List (List ℕ)
pieces_of word = filter is_filled (slice_split is_mark word)

-- the words of a node's line
unfoldable pub node_words : List (List ℕ) → List (List ℕ)
node_words words = flat_map pieces_of words
