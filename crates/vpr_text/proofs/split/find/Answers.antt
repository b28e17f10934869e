use Rattle.std.proofs.Common.{eqb, arith}
use Rattle.std.proofs.lemmas.Bool.{eq-eqb, ne_eqb}
use Rattle.vpr_text.proofs.ByteParts.{NonePass-more, found_at}
use Rattle.vpr_text.proofs.split.find.Goals as goal

pub returns-then-source-i-clause-found : goal.returns-then-source-i-clause-found
returns-then-source-i-clause-found c =
    found_at (λ b. eqb b c.args.byte) c.args.source.now c.args.from c.loop-i.i c.args.to (omega arith) (omega arith) (omega arith) c.loop-i.invariant (λ _. eq-eqb _ _ c.if-source-i.true)

pub returns-clause-found : goal.returns-clause-found
returns-clause-found c =
    found_at (λ b. eqb b c.args.byte) c.args.source.now c.args.from c.args.to c.args.to (omega arith) (omega arith) (omega arith) (λ k a b. c.loop-i.invariant k a (omega arith)) (λ lt. absurd (omega arith))

pub loop-i-preserved : goal.loop-i-preserved
loop-i-preserved c = NonePass-more (λ b. eqb b c.args.byte) c.args.source.now c.args.from c.loop-i.i c.loop-i.invariant (ne_eqb _ _ c.if-source-i.false)
