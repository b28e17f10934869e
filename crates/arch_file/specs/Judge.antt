-- A line, given what the lines before it say: what it says, or its first fault (VPR and T-VPack
-- manual 4.30; the order of the faults is this project's profile).
use Rattle.std.specs.Prelude.{ℕ, Bool, false, ◌&&◌, if◌then◌else◌, List, Option, None, Some, option_and_then, slice_get, Result, Ok, Err}
use Rattle.std.specs.Option.{option_map_or}
use Rattle.std.specs.List.{list_any}
use Rattle.arch_file.specs.declared.fault.LineFault.{LineFault}
use Rattle.arch_file.specs.declared.fault.LineFault.TheVariants.{UnknownKeyword, Repeated}
use Rattle.arch_file.specs.declared.keyword.Keyword.{Keyword}
use Rattle.arch_file.specs.declared.keyword.Keyword.TheVariants.{IoRat, ChanWidthIo, ChanWidthX, ChanWidthY, Inpin, Outpin, SubblocksPerClb, SubblockLutSize, SwitchBlockType, FcType, FcOutput, FcInput, FcPad, Segment, Switch}
use Rattle.arch_file.specs.declared.line.ArchLine.{ArchLine}
use Rattle.arch_file.specs.declared.line.ArchLine.TheVariants as line
use Rattle.arch_file.specs.declared.entries.Direction.TheVariants.{Input, Output}
use Rattle.arch_file.specs.Keyword.{keyword_of, is_unread, same_keyword, stands_once}
use Rattle.arch_file.specs.Lines.{keyword_of_line}
use Rattle.arch_file.specs.PinLine.{pin_line}
use Rattle.arch_file.specs.SegmentLine.{segment_line}
use Rattle.arch_file.specs.SwitchLine.{switch_line}
use Rattle.arch_file.specs.Values.{io_rat_line, chan_width_io_line, channel_line, number_line, fixed_value, switch_block_type_line, fc_type_line}
use Rattle.vpr_text.specs.Readings.{◌>>=◌}

-- a line that begins with a keyword of timing, `T_`, `C_` or `R_`, is passed over unread
abbrev pub is_passed : List (List ℕ) → Bool
is_passed words = option_map_or is_unread (slice_get words 0) false

-- a line has this keyword
unfoldable pub has_keyword : List ArchLine → Keyword → Bool
has_keyword lines keyword = list_any (λ line. same_keyword (keyword_of_line line) keyword) lines

-- a keyword that may occur once is on a line before
abbrev pub is_repeated : List ArchLine → Keyword → Bool
is_repeated before keyword = stands_once keyword && has_keyword before keyword

-- the keyword that a line begins with, if it is one
abbrev pub keyword_at : List (List ℕ) → Option Keyword
keyword_at words = option_and_then keyword_of (slice_get words 0)

-- what a line with this keyword says
unfoldable pub says : List ArchLine → List (List ℕ) → Keyword → Result ArchLine LineFault
says before words IoRat = io_rat_line words
says before words ChanWidthIo = chan_width_io_line words
says before words ChanWidthX = channel_line words line.ChanWidthX
says before words ChanWidthY = channel_line words line.ChanWidthY
says before words Inpin = pin_line before Input words
says before words Outpin = pin_line before Output words
says before words SubblocksPerClb = number_line words line.SubblocksPerClb
says before words SubblockLutSize = number_line words line.SubblockLutSize
says before words SwitchBlockType = switch_block_type_line words
says before words FcType = fc_type_line words
says before words FcOutput = fixed_value words >>= λ v. Ok (line.FcOutput v)
says before words FcInput = fixed_value words >>= λ v. Ok (line.FcInput v)
says before words FcPad = fixed_value words >>= λ v. Ok (line.FcPad v)
says before words Segment = segment_line before words
says before words Switch = switch_line before words

unfoldable pub judged : List ArchLine → List (List ℕ) → Option Keyword → Result ArchLine LineFault
judged before words None = Err UnknownKeyword
judged before words (Some keyword) = if is_repeated before keyword then Err Repeated else says before words keyword

-- what a line says, given what the lines before it say, or its first fault
unfoldable pub judge : List ArchLine → List (List ℕ) → Result ArchLine LineFault
judge before words = judged before words (keyword_at words)
