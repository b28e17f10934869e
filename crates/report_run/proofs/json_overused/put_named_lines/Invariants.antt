use Rattle.std.proofs.Common.{◌≡◌}
use Rattle.std.specs.List.{flat_map, list_any}
use Rattle.text_output.specs.Printing.{PrintsTo}
use Rattle.rr_graph.specs.Fabric.{numbers_below}
use Rattle.report_run.specs.JsonReport.{is_naming, named_item}
use Rattle.report_run.proofs.json_overused.put_named_lines.Given as goal

-- what is said of the lines so far was sent, and it is known whether one of them names a node
abbrev pub invariant-loop-index : goal.invariant-loop-index
invariant-loop-index g l =
    let sink = g.W.ByteSink in
    PrintsTo sink l.initial.out l.out (flat_map (named_item l.device l.uses l.lines) (numbers_below l.index))
    × (l.is_next ≡ list_any (is_naming l.device l.uses l.lines) (numbers_below l.index))
