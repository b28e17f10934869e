use Rattle.group_wave.proofs.Outputs.{IsEntering}
use Rattle.group_wave.proofs.wave.Wave.enter_outputs.Given as goal

abbrev pub invariant-loop-pin : goal.invariant-loop-pin
invariant-loop-pin g l = IsEntering l.ground l.pins l.fn.self l.self l.pin-index
