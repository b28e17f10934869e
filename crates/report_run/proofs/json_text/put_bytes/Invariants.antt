use Rattle.std.specs.List.{flat_map}
use Rattle.text_output.specs.Printing.{PrintsTo}
use Rattle.rr_graph.specs.Fabric.{numbers_below}
use Rattle.report_run.specs.Json.{byte_text}
use Rattle.report_run.proofs.json_text.put_bytes.Given as goal

-- the bytes so far were sent
abbrev pub invariant-loop-index : goal.invariant-loop-index
invariant-loop-index g l =
    let sink = g.W.ByteSink in
    PrintsTo sink l.initial.out l.out (flat_map (byte_text l.bytes) (numbers_below l.index))
