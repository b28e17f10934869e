use Rattle.std.proofs.Common.{◌≡◌, None, drop}
use Rattle.route_explain.specs.Lines.{step_line}
use Rattle.route_explain.proofs.lines.step_line.Given as goal

-- the line is that of so many more steps in the lines that are left
abbrev pub invariant-loop-index : goal.invariant-loop-index
invariant-loop-index l = step_line l.device l.last l.left (drop l.index l.lines) ≡ step_line l.device None l.row (drop l.start l.lines)
