use Rattle.std.proofs.Common.{take}
use Rattle.std.specs.List.{flat_map}
use Rattle.text_output.specs.Printing.{PrintsTo}
use Rattle.route_explain.specs.Reasons.{leaving_text}
use Rattle.route_explain.proofs.reasons.put_all_leaving.Given as goal

-- the steps from the source so far were sent
abbrev pub invariant-loop-pair : goal.invariant-loop-pair
invariant-loop-pair g l =
    let sink = g.W.ByteSink in
    PrintsTo sink l.initial.out l.out (flat_map (leaving_text l.device l.source) (take l.pair-index l.pairs))
