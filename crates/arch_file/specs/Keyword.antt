-- The keywords of an architecture file (VPR and T-VPack manual 4.30, "The Architecture File
-- Format").
use Rattle.std.specs.Prelude.{ℕ, Bool, true, false, ◌||◌, if◌then◌else◌, List, [], ◌∷◌, Option, Some, None, codes, nat_eq}
use Rattle.std.specs.List.{starts_with}
use denote.Enum.Bare.{sameb}
use Rattle.vpr_text.specs.Word.{is_text}
use Rattle.arch_file.specs.contracts.keyword.Keyword.{the_type}
use Rattle.arch_file.specs.declared.keyword.Keyword.{Keyword}
use Rattle.arch_file.specs.declared.keyword.Keyword.TheVariants.{IoRat, ChanWidthIo, ChanWidthX, ChanWidthY, Inpin, Outpin, SubblocksPerClb, SubblockLutSize, SwitchBlockType, FcType, FcOutput, FcInput, FcPad, Segment, Switch}

-- a word begins with this text
unfoldable pub begins_with : List ℕ → List ℕ → Bool
begins_with word text = starts_with nat_eq word text

-- lines that give delays are passed over unread
abbrev pub is_unread : List ℕ → Bool
is_unread word = begins_with word (codes "T_") || begins_with word (codes "C_") || begins_with word (codes "R_")

-- each keyword with its text
unfoldable pub keywords : List (List ℕ × Keyword)
keywords =
    (codes "io_rat", IoRat)
    ∷ (codes "chan_width_io", ChanWidthIo)
    ∷ (codes "chan_width_x", ChanWidthX)
    ∷ (codes "chan_width_y", ChanWidthY)
    ∷ (codes "inpin", Inpin)
    ∷ (codes "outpin", Outpin)
    ∷ (codes "subblocks_per_clb", SubblocksPerClb)
    ∷ (codes "subblock_lut_size", SubblockLutSize)
    ∷ (codes "switch_block_type", SwitchBlockType)
    ∷ (codes "Fc_type", FcType)
    ∷ (codes "Fc_output", FcOutput)
    ∷ (codes "Fc_input", FcInput)
    ∷ (codes "Fc_pad", FcPad)
    ∷ (codes "segment", Segment)
    ∷ (codes "switch", Switch)
    ∷ []

-- the keyword of the first pair whose text is this word
abbrev pub keyword_in : List (List ℕ × Keyword) → List ℕ → Option Keyword
keyword_in [] word = None
keyword_in (pair ∷ pairs) word = if is_text word pair.0 then Some pair.1 else keyword_in pairs word

-- the keyword that a word is, if it is one
unfoldable pub keyword_of : List ℕ → Option Keyword
keyword_of word = keyword_in keywords word

-- the two are the same keyword
abbrev pub same_keyword : Keyword → Keyword → Bool
same_keyword = sameb the_type

-- each keyword but those of pins, segments and switches is on one line
abbrev pub stands_once : Keyword → Bool
stands_once Inpin = false
stands_once Outpin = false
stands_once Segment = false
stands_once Switch = false
stands_once _ = true
