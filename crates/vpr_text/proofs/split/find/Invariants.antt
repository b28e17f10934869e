use Rattle.std.proofs.Common.{eqb}
use Rattle.vpr_text.proofs.ByteParts.{NonePass}
use Rattle.vpr_text.proofs.split.find.Given as goal

abbrev pub invariant-loop-i : goal.invariant-loop-i
invariant-loop-i l = NonePass (λ b. eqb b l.byte) l.source l.from l.i
