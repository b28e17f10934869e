use Rattle.std.proofs.Common.{drop, map}
use Rattle.std.specs.List.{flat_map}
use Rattle.route_file.specs.TextLine.{line_text}
use Rattle.route_file.specs.Text.{block_line}
use Rattle.route_file.proofs.Sending.{Lacks}
use Rattle.route_file.proofs.blocks.put_terminals.Given as goal

-- what is lacking are the lines of the terminals to come
abbrev pub invariant-loop-terminal : goal.invariant-loop-terminal
invariant-loop-terminal g l =
    let sink = g.W.ByteSink in
    Lacks sink l.initial.out l.out
    (flat_map line_text (map (block_line l.netlist l.placement) (drop l.terminal-index l.terminals))) (flat_map line_text (map (block_line l.netlist l.placement) l.terminals))
