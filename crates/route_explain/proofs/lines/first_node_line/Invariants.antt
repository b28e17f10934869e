use Rattle.std.proofs.Common.{◌≡◌, drop}
use Rattle.route_explain.specs.Lines.{first_node_line}
use Rattle.route_explain.proofs.lines.first_node_line.Given as goal

-- the line is the first one of those that are left
abbrev pub invariant-loop-index : goal.invariant-loop-index
invariant-loop-index l = first_node_line l.device (drop l.index l.lines) ≡ first_node_line l.device (drop l.start l.lines)
