use Rattle.std.proofs.Common.{take}
use Rattle.std.specs.List.{flat_map}
use Rattle.text_output.specs.Printing.{PrintsTo}
use Rattle.bound_run.specs.CutTexts.{pin_text}
use Rattle.bound_run.proofs.pins.put_pins.Given as goal

-- the lines so far were sent
abbrev pub invariant-loop-pin : goal.invariant-loop-pin
invariant-loop-pin g l =
    let sink = g.W.ByteSink in
    PrintsTo sink l.initial.out l.out (flat_map (pin_text l.placed) (take l.pin-index l.pins))
