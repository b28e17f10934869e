-- Lines of one value: what each says, or its first fault (VPR and T-VPack manual 4.30; the limits,
-- what is not supported and the order of the faults are this project's profile). Words are counted
-- from 0; word 0 is the keyword.
use Rattle.std.specs.Prelude.{ℕ, Bool, false, not, ◌&&◌, ◌||◌, ◌==◌, nat_lt, if◌then◌else◌, List, length, unwrap_or, is_none, Result, Ok, Err, codes}
use Rattle.arch_file.specs.declared.fault.LineFault.{LineFault}
use Rattle.arch_file.specs.declared.fault.LineFault.TheVariants.{BadWord, Unsupported}
use Rattle.arch_file.specs.declared.line.ArchLine.{ArchLine}
use Rattle.arch_file.specs.declared.line.ArchLine.TheVariants as line
use Rattle.arch_file.specs.declared.entries.FcType.TheVariants.{Absolute, Fractional}
use Rattle.arch_file.specs.Faults.{first_fault}
use Rattle.vpr_text.specs.Word.{has, is_at, number_in, fixed_in}
use Rattle.arch_file.specs.Architecture.{most_pads}

-- the number of pads, or 0 where there is none
abbrev pub pads_in : List (List ℕ) → ℕ
pads_in words = unwrap_or (number_in words 1) 0

-- `io_rat n`: pads at each place of the perimeter, 1 to 16
unfoldable pub io_rat_line : List (List ℕ) → Result ArchLine LineFault
io_rat_line words = first_fault (has words 1 && pads_in words == 0) (not (length words == 2)) false (nat_lt most_pads (pads_in words)) (line.IoRat (pads_in words))

-- the word at this place is the number 1
abbrev pub is_one : List (List ℕ) → ℕ → Bool
is_one words j = unwrap_or (fixed_in words j) 0 == 1000000000

-- the word at this place is there and is no number with decimals
abbrev pub is_not_fixed : List (List ℕ) → ℕ → Bool
is_not_fixed words j = has words j && is_none (fixed_in words j)

-- `chan_width_io 1`
unfoldable pub chan_width_io_line : List (List ℕ) → Result ArchLine LineFault
chan_width_io_line words = first_fault (is_not_fixed words 1) (not (length words == 2)) (not (is_one words 1)) false line.ChanWidthIo

-- channels whose widths differ are not supported, whatever follows
abbrev pub is_distribution : List (List ℕ) → Bool
is_distribution words = is_at words 1 (codes "gaussian") || is_at words 1 (codes "pulse") || is_at words 1 (codes "delta")

-- `chan_width_x uniform 1` and `chan_width_y uniform 1`
unfoldable pub channel_line : List (List ℕ) → ArchLine → Result ArchLine LineFault
channel_line words line =
    if is_distribution words then Err Unsupported
    else first_fault (is_not_fixed words 2) (not (is_at words 1 (codes "uniform")) || not (length words == 3)) (not (is_one words 2)) false line

-- a keyword and a number
unfoldable pub number_line : List (List ℕ) → ArchLine → Result ArchLine LineFault
number_line words line = first_fault (has words 1 && is_none (number_in words 1)) (not (length words == 2)) false false line

-- the number with decimals that follows a keyword and is the rest of the line
unfoldable pub fixed_value : List (List ℕ) → Result ℕ LineFault
fixed_value words = first_fault (is_not_fixed words 1) (not (length words == 2)) false false (unwrap_or (fixed_in words 1) 0)

-- `switch_block_type subset`
unfoldable pub switch_block_type_line : List (List ℕ) → Result ArchLine LineFault
switch_block_type_line words =
    if not (length words == 2) then Err BadWord
    else (if is_at words 1 (codes "wilton") || is_at words 1 (codes "universal") then Err Unsupported
    else (if is_at words 1 (codes "subset") then Ok line.SwitchBlockType else Err BadWord))

-- `Fc_type absolute` and `Fc_type fractional`
unfoldable pub fc_type_line : List (List ℕ) → Result ArchLine LineFault
fc_type_line words =
    if not (length words == 2) then Err BadWord
    else (if is_at words 1 (codes "absolute") then Ok (line.FcType Absolute)
    else (if is_at words 1 (codes "fractional") then Ok (line.FcType Fractional) else Err BadWord))
