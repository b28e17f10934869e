use Rattle.std.proofs.Common.{◌≡◌, [], take, drop}
use Rattle.net_file.specs.Reading.{line_fault_from}
use Rattle.net_file.specs.kept.LinesSeen.{IsSeen}
use Rattle.net_file.proofs.reading.seen_in.Given as goal

-- what the lines so far say is kept, and none of them is faulty
abbrev pub invariant-loop-i : goal.invariant-loop-i
invariant-loop-i l =
    IsSeen (take l.i l.lines) l.seen
    × (line_fault_from l.pins (take l.i l.lines) (drop l.i l.lines) ≡ line_fault_from l.pins [] l.lines)
