use Rattle.std.proofs.Common.{◌≡◌}
use Rattle.route_explain.specs.Lines.{starts_among}
use Rattle.route_explain.proofs.starts.section_starts.Given as goal

-- the sections that the lines so far begin are noted
abbrev pub invariant-loop-index : goal.invariant-loop-index
invariant-loop-index l = l.starts.items ≡ starts_among l.netlist l.lines l.index
