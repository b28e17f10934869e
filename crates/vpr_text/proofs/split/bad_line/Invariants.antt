use Rattle.std.proofs.Common.{◌≡◌, ◌+◌, ◌≤◌, drop}
use Rattle.vpr_text.specs.Text.{bad_line_from}
use Rattle.vpr_text.proofs.split.bad_line.Given as goal

abbrev pub invariant-loop-byte : goal.invariant-loop-byte
invariant-loop-byte l = (l.number ≤ l.byte-index + 1) × (bad_line_from l.number (drop l.byte-index l.source) ≡ bad_line_from 1 l.source)
