use Rattle.std.proofs.Common.{◌≡◌, [], drop}
use Rattle.arch_file.specs.Reading.{entries_from}
use Rattle.arch_file.proofs.reading.entries.Given as goal

-- what the lines say, after those so far
abbrev pub invariant-loop-i : goal.invariant-loop-i
invariant-loop-i l = entries_from l.entries.items (drop l.i l.lines) ≡ entries_from [] l.lines
