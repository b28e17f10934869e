use Rattle.std.proofs.Common.{length, [], false}
use Rattle.vpr_text.specs.Output.{Prints, stream}
use Rattle.vpr_text.proofs.output.put_all.Given as goal

-- what was put is printed, and the rest is held
abbrev pub invariant-loop-rest : goal.invariant-loop-rest
invariant-loop-rest g l =
    let sink = g.W.ByteSink in
    Prints (stream (sink.taken l.fn.sink) (sink.failed l.fn.sink) (record { held = l.bytes; broken = false })) (stream (sink.taken l.sink) (sink.failed l.sink) (record { held = l.rest; broken = false })) []

abbrev pub decreases-loop-rest : goal.decreases-loop-rest
decreases-loop-rest g l = length l.rest
