use Rattle.std.proofs.Common.{take}
use Rattle.std.specs.List.{flat_map}
use Rattle.text_output.specs.Printing.{PrintsTo}
use Rattle.route_explain.specs.Reasons.{missing_text}
use Rattle.route_explain.proofs.reasons.put_all_missing.Given as goal

-- the missing ones of the sinks so far were sent
abbrev pub invariant-loop-node : goal.invariant-loop-node
invariant-loop-node g l =
    let sink = g.W.ByteSink in
    PrintsTo sink l.initial.out l.out (flat_map (missing_text l.device l.list.pairs) (take l.node-index l.sinks))
