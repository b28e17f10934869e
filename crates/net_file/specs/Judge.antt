-- A line, given the lines before it: its first fault, if it has one (VPR and T-VPack manual 4.30;
-- the limits and the order of the faults are this project's profile).
use Rattle.std.specs.Prelude.{ℕ, ◌+◌, Bool, true, false, not, ◌&&◌, ◌||◌, nat_lt, nat_le, ◌==◌, if◌then◌else◌, List, [], ◌∷◌, ◌++◌, length, Option, None, Some, is_some}
use Rattle.std.specs.Option.{option_map_or}
use Rattle.vpr_text.specs.Words.{Line}
use Rattle.net_file.specs.declared.fault.LineFault.{LineFault}
use Rattle.net_file.specs.declared.fault.LineFault.TheVariants.{BadLine, PinCount, DoubleName, TooMany}
use Rattle.net_file.specs.declared.terminal.BlockKind.{BlockKind}
use Rattle.net_file.specs.declared.terminal.BlockKind.TheVariants.{InputPad, OutputPad, LogicBlock}
use Rattle.net_file.specs.Lines.{is_element, is_pinlist, is_subblock, is_global, name_in, block_names, net_names, opened, latest}
use Rattle.net_file.specs.Names.{is_among}

-- how many pins a block has: a pad one, a logic block those of the architecture
abbrev pub pin_count : ℕ → BlockKind → ℕ
pin_count pins InputPad = 1
pin_count pins OutputPad = 1
pin_count pins LogicBlock = pins

abbrev pub is_logic_block : BlockKind → Bool
is_logic_block InputPad = false
is_logic_block OutputPad = false
is_logic_block LogicBlock = true

-- a valid line other than a pinlist: an element with a name, names of global nets, or a subblock of
-- a logic block
abbrev pub stands : Option BlockKind → List (List ℕ) → Bool
stands block words =
    (is_element words && length words == 2)
    || (is_global words && nat_le 2 (length words))
    || (is_subblock words && option_map_or is_logic_block block false)

-- the line can't follow those before it: the line after an element is its pinlist
unfoldable pub is_bad_line : Option BlockKind → Option BlockKind → List (List ℕ) → Bool
is_bad_line element block words = if is_some element then not (is_pinlist words) else not (stands block words)

-- the pinlist of an element has more or fewer names than the block has pins
unfoldable pub is_bad_count : ℕ → Option BlockKind → List (List ℕ) → Bool
is_bad_count pins element words = option_map_or (λ kind. not (length words == pin_count pins kind + 1)) element false

-- the element has the name of an earlier block
unfoldable pub is_double : List (List ℕ) → List (List ℕ) → Bool
is_double names words = is_element words && is_among names (name_in words)

-- there are at most 20,000 blocks and 65,535 nets
unfoldable pub are_too_many : List (List ℕ) → List (List ℕ) → Bool
are_too_many blocks nets = nat_lt 20000 (length blocks) || nat_lt 65535 (length nets)

-- the first of the faults that a line has, in this order
abbrev pub first_fault : (bad_line bad_count double too_many : Bool) → Option LineFault
first_fault bad_line bad_count double too_many =
    if bad_line then Some BadLine
    else (if bad_count then Some PinCount
    else (if double then Some DoubleName
    else (if too_many then Some TooMany
    else None)))

-- the fault of a line after those before it
unfoldable pub fault_of_next : ℕ → List Line → Line → Option LineFault
fault_of_next pins before line =
    first_fault (is_bad_line (opened before) (latest before) line.words)
    (is_bad_count pins (opened before) line.words)
    (is_double (block_names before) line.words)
    (are_too_many (block_names (before ++ line ∷ [])) (net_names (before ++ line ∷ [])))
