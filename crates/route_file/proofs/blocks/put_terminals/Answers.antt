use Rattle.std.proofs.Common.{◌≤◌, length, map, sym, ap, ◌∙◌, arith}
use Rattle.std.specs.List.{flat_map}
use Rattle.std.proofs.lemmas.List.{drop_all}
use Rattle.route_file.specs.TextLine.{line_text}
use Rattle.route_file.specs.Text.{block_line}
use Rattle.route_file.proofs.Sending.{lacks_end, lacks_next, lacks_for_good}
use Rattle.route_file.proofs.NetTexts.{terminals_next}
use Rattle.route_file.proofs.blocks.put_terminals.Goals as goal

pub returns-then-is_broken : goal.returns-then-is_broken
returns-then-is_broken g c =
    let next = terminals_next c.args.netlist.now c.args.placement.now c.args.terminals.now c.loop-terminal.terminal-index _ c.loop-terminal-test.true in
    lacks_for_good (lacks_next c.loop-terminal.invariant next c.put_terminal.ensures) (sym c.is_broken.ensures ∙ c.if-is_broken.true)

pub loop-terminal-preserved : goal.loop-terminal-preserved
loop-terminal-preserved g c =
    let next = terminals_next c.args.netlist.now c.args.placement.now c.args.terminals.now c.loop-terminal.terminal-index _ c.loop-terminal-test.true in
    lacks_next c.loop-terminal.invariant next c.put_terminal.ensures

pub returns : goal.returns
returns g c =
    let past : length c.args.terminals.now ≤ c.loop-terminal.terminal-index = omega (arith, c.loop-terminal-test.false) in
    lacks_end c.loop-terminal.invariant (ap (flat_map line_text) (ap (map (block_line c.args.netlist.now c.args.placement.now)) (drop_all c.loop-terminal.terminal-index c.args.terminals.now past)))
