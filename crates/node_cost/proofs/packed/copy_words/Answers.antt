use Rattle.std.proofs.Common.{arith}
use Rattle.node_cost.proofs.FlagsAdded.{added_all, added_more, only_at, plain_at}
use Rattle.node_cost.proofs.packed.copy_words.Goals as goal

pub with_flags-requires-clause-plain : goal.with_flags-requires-clause-plain
with_flags-requires-clause-plain c = plain_at c.args.plain.now c.loop-at.at c.requires.plain

pub with_flags-requires-clause-only : goal.with_flags-requires-clause-only
with_flags-requires-clause-only c = only_at c.args.flags.now c.loop-at.at c.requires.only

pub loop-at-preserved : goal.loop-at-preserved
loop-at-preserved c = added_more c.args.plain.now c.args.flags.now c.loop-at.words c.loop-at.at c.with_flags.result (omega (arith, c.loop-at-test.true, c.loop-at.auto.words)) c.loop-at.invariant c.with_flags.ensures

pub returns : goal.returns
returns c =
    added_all c.args.plain.now c.args.flags.now c.loop-at.words (omega (arith, c.loop-at.auto.words, c.requires.words)) c.requires.flags
    (λ id l. c.loop-at.invariant id (omega (arith, l, c.loop-at.auto.words, c.loop-at-test.false)))
