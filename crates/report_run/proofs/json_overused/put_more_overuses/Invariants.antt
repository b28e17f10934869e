use Rattle.std.proofs.Common.{take}
use Rattle.std.specs.List.{flat_map}
use Rattle.text_output.specs.Printing.{PrintsTo}
use Rattle.report_run.specs.Json.{next_item}
use Rattle.report_run.specs.JsonReport.{overuse_json}
use Rattle.report_run.proofs.json_overused.put_more_overuses.Given as goal

-- what is said of those so far was sent
abbrev pub invariant-loop-overuse : goal.invariant-loop-overuse
invariant-loop-overuse g l =
    let sink = g.W.ByteSink in
    PrintsTo sink l.initial.out l.out (flat_map (next_item (overuse_json l.netlist l.problem)) (take l.overuse-index l.nodes))
