-- An accepted line's keyword, and the entry that it gives.
use Rattle.std.specs.Prelude.{ℕ, Bool, true, false, List, Option, Some, None}
use Rattle.std.specs.List.{filter_map}
use Rattle.arch_file.specs.declared.keyword.Keyword.{Keyword}
use Rattle.arch_file.specs.declared.keyword.Keyword.TheVariants as keyword
use Rattle.arch_file.specs.declared.line.ArchLine.{ArchLine}
use Rattle.arch_file.specs.declared.line.ArchLine.TheVariants as line
use Rattle.arch_file.specs.declared.entries.Direction.{Direction}
use Rattle.arch_file.specs.declared.entries.Direction.TheVariants.{Input, Output}
use Rattle.arch_file.specs.declared.entries.FcType.{FcType}
use Rattle.arch_file.specs.declared.entries.Pin.{Pin}
use Rattle.arch_file.specs.declared.entries.Segment.{Segment}
use Rattle.arch_file.specs.declared.entries.Switch.{Switch}

abbrev pub same_direction : Direction → Direction → Bool
same_direction Input Input = true
same_direction Input Output = false
same_direction Output Input = false
same_direction Output Output = true

abbrev pub keyword_of_pin : Direction → Keyword
keyword_of_pin Input = keyword.Inpin
keyword_of_pin Output = keyword.Outpin

-- the keyword of a line
abbrev pub keyword_of_line : ArchLine → Keyword
keyword_of_line (line.IoRat n) = keyword.IoRat
keyword_of_line line.ChanWidthIo = keyword.ChanWidthIo
keyword_of_line line.ChanWidthX = keyword.ChanWidthX
keyword_of_line line.ChanWidthY = keyword.ChanWidthY
keyword_of_line (line.Pin pin) = keyword_of_pin pin.direction
keyword_of_line line.SubblocksPerClb = keyword.SubblocksPerClb
keyword_of_line line.SubblockLutSize = keyword.SubblockLutSize
keyword_of_line line.SwitchBlockType = keyword.SwitchBlockType
keyword_of_line (line.FcType kind) = keyword.FcType
keyword_of_line (line.FcOutput v) = keyword.FcOutput
keyword_of_line (line.FcInput v) = keyword.FcInput
keyword_of_line (line.FcPad v) = keyword.FcPad
keyword_of_line (line.Segment segment) = keyword.Segment
keyword_of_line (line.Switch switch) = keyword.Switch

abbrev pub pin_of : ArchLine → Option Pin
pin_of (line.Pin pin) = Some pin
pin_of _ = None

abbrev pub segment_of : ArchLine → Option Segment
segment_of (line.Segment segment) = Some segment
segment_of _ = None

abbrev pub switch_of : ArchLine → Option Switch
switch_of (line.Switch switch) = Some switch
switch_of _ = None

abbrev pub io_rat_of : ArchLine → Option ℕ
io_rat_of (line.IoRat n) = Some n
io_rat_of _ = None

abbrev pub fc_type_of : ArchLine → Option FcType
fc_type_of (line.FcType kind) = Some kind
fc_type_of _ = None

abbrev pub fc_output_of : ArchLine → Option ℕ
fc_output_of (line.FcOutput v) = Some v
fc_output_of _ = None

abbrev pub fc_input_of : ArchLine → Option ℕ
fc_input_of (line.FcInput v) = Some v
fc_input_of _ = None

abbrev pub fc_pad_of : ArchLine → Option ℕ
fc_pad_of (line.FcPad v) = Some v
fc_pad_of _ = None

-- the pins, segments and switches of the lines, in their order
abbrev pub pins_of : List ArchLine → List Pin
pins_of lines = filter_map pin_of lines

abbrev pub segments_of : List ArchLine → List Segment
segments_of lines = filter_map segment_of lines

abbrev pub switches_of : List ArchLine → List Switch
switches_of lines = filter_map switch_of lines
