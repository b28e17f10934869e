use Rattle.std.proofs.Common.{take}
use Rattle.std.specs.List.{flat_map}
use Rattle.text_output.specs.Printing.{PrintsTo}
use Rattle.bound_run.specs.CutTexts.{place_line}
use Rattle.bound_run.proofs.places.put_places.Given as goal

-- the lines so far were sent
abbrev pub invariant-loop-place : goal.invariant-loop-place
invariant-loop-place g l =
    let sink = g.W.ByteSink in
    PrintsTo sink l.initial.out l.out (flat_map (λ p. place_line p.0 p.1 p.2) (take l.place-index l.places))
