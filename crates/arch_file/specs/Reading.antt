-- An architecture file as a list of lines, read line by line: what is read, or the first fault (VPR
-- and T-VPack manual 4.30; the faults and their order are this project's profile).
use Rattle.std.specs.Prelude.{ℕ, ◌-◌, Bool, not, ◌&&◌, ◌||◌, ◌==◌, nat_lt, if◌then◌else◌, List, [], ◌∷◌, ◌++◌, length, Option, None, Some, unwrap_or, fold, Result, Ok, Err}
use Rattle.std.specs.List.{list_any}
use Rattle.vpr_text.specs.Readings.{◌>>=◌, with_fault}
use Rattle.vpr_text.specs.Words.{Line}
use Rattle.vpr_text.specs.Text.{lines_of}
use Rattle.arch_file.specs.declared.fault.ArchFault.{ArchFault}
use Rattle.arch_file.specs.declared.fault.ArchFault.TheVariants as arch
use Rattle.arch_file.specs.declared.fault.Entry.{Entry}
use Rattle.arch_file.specs.declared.fault.Entry.TheVariants as entry
use Rattle.arch_file.specs.declared.fault.LineFault.{LineFault}
use Rattle.arch_file.specs.declared.keyword.Keyword.TheVariants.{IoRat, ChanWidthIo, ChanWidthX, ChanWidthY, SwitchBlockType, FcType, FcOutput, FcInput, FcPad}
use Rattle.arch_file.specs.declared.line.ArchLine.{ArchLine}
use Rattle.arch_file.specs.declared.entries.FcType.TheVariants.{Absolute}
use Rattle.arch_file.specs.Architecture.{Architecture}
use Rattle.arch_file.specs.Faults.{at_line}
use Rattle.arch_file.specs.Judge.{is_passed, has_keyword, judge}
use Rattle.arch_file.specs.Lines.{pins_of, segments_of, switches_of, io_rat_of, fc_type_of, fc_output_of, fc_input_of, fc_pad_of}
use Rattle.arch_file.specs.SwitchLine.{has_switch}

-- a line's fault with the number of the line
abbrev pub at_number : ℕ → Result ArchLine LineFault → Result ArchLine ArchFault
at_number n (Ok line) = Ok line
at_number n (Err fault) = Err (at_line fault n)

-- what the lines say, after those before them, or the fault of the first faulty line
unfoldable pub entries_from : List ArchLine → List Line → Result (List ArchLine) ArchFault
entries_from before [] = Ok before
entries_from before (l ∷ ls) =
    if is_passed l.words then entries_from before ls
    else (at_number l.number (judge before l.words) >>= λ line. entries_from (before ++ line ∷ []) ls)

-- a pin of the lines has this class
unfoldable pub has_class : List ArchLine → ℕ → Bool
has_class lines class = list_any (λ pin. pin.class == class) (pins_of lines)

-- the classes don't run from 0 without gaps: there is one above 0, and no pin of the class below it
unfoldable pub has_gap : List ArchLine → Bool
has_gap lines = list_any (λ pin. nat_lt 0 pin.class && not (has_class lines (pin.class - 1))) (pins_of lines)

-- a segment names a switch that no line gives
unfoldable pub lacks_switch : List ArchLine → Bool
lacks_switch lines = list_any (λ segment. not (has_switch lines segment.wire_switch) || not (has_switch lines segment.opin_switch)) (segments_of lines)

-- the first entry that the lines lack
unfoldable pub missing_of : List ArchLine → Option Entry
missing_of lines =
    if not (has_keyword lines IoRat) then Some entry.IoRat
    else (if not (has_keyword lines ChanWidthIo) then Some entry.ChanWidthIo
    else (if not (has_keyword lines ChanWidthX) then Some entry.ChanWidthX
    else (if not (has_keyword lines ChanWidthY) then Some entry.ChanWidthY
    else (if length (pins_of lines) == 0 then Some entry.Pin
    else (if has_gap lines then Some entry.Class
    else (if not (has_keyword lines SwitchBlockType) then Some entry.SwitchBlockType
    else (if not (has_keyword lines FcType) then Some entry.FcType
    else (if not (has_keyword lines FcOutput) then Some entry.FcOutput
    else (if not (has_keyword lines FcInput) then Some entry.FcInput
    else (if not (has_keyword lines FcPad) then Some entry.FcPad
    else (if length (segments_of lines) == 0 then Some entry.Segment
    else (if lacks_switch lines then Some entry.Switch
    else None))))))))))))

-- the value that a line gives, or x where none does; no two lines give one, since its keyword
-- occurs once
abbrev pub value_in : {X : Type 0} → (ArchLine → Option X) → List ArchLine → X → X
value_in f lines x = fold (λ value line. unwrap_or (f line) value) x lines

-- the architecture that lines describe: their entries, and nothing else
abbrev pub architecture_from : List ArchLine → Architecture
architecture_from lines =
    record {
      io_rat = value_in io_rat_of lines 0;
      pins = pins_of lines;
      fc_type = value_in fc_type_of lines Absolute;
      fc_output = value_in fc_output_of lines 0;
      fc_input = value_in fc_input_of lines 0;
      fc_pad = value_in fc_pad_of lines 0;
      segments = segments_of lines;
      switches = switches_of lines;
    }

abbrev pub completed : List ArchLine → Option Entry → Result Architecture ArchFault
completed lines None = Ok (architecture_from lines)
completed lines (Some e) = Err (arch.Missing e)

-- lines as an architecture: the fault of the first faulty line, else the first entry that is
-- missing
unfoldable pub reading : List Line → Result Architecture ArchFault
reading lines = entries_from [] lines >>= λ entries. completed entries (missing_of entries)

-- bytes as an architecture
unfoldable pub arch_of : List ℕ → Result Architecture ArchFault
arch_of bytes = with_fault arch.Text (lines_of bytes) >>= reading
