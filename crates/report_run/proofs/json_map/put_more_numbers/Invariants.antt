use Rattle.std.proofs.Common.{take}
use Rattle.std.specs.List.{flat_map}
use Rattle.text_output.specs.Printing.{PrintsTo}
use Rattle.std.specs.Prelude.{decimal}
use Rattle.report_run.specs.Json.{next_item}
use Rattle.report_run.proofs.json_map.put_more_numbers.Given as goal

-- what is said of those so far was sent
abbrev pub invariant-loop-number : goal.invariant-loop-number
invariant-loop-number g l =
    let sink = g.W.ByteSink in
    PrintsTo sink l.initial.out l.out (flat_map (next_item decimal) (take l.number-index l.numbers))
