use Rattle.std.proofs.Common.{◌+◌, ◌^◌, ◌<◌, arith}
use Rattle.node_cost.proofs.FlagsAdded.{word_added, word_within}
use Rattle.node_cost.proofs.packed.with_flags.Goals as goal

pub overflow_add-result : goal.overflow_add-result
overflow_add-result c =
    let within : c.args.word + c.args.flags < 2 ^ 64 = word_within c.args.word c.args.flags c.requires.plain c.requires.only c.ranges.word.fits c.ranges.flags.fits in
    omega (arith, within)

pub returns : goal.returns
returns c = word_added c.args.word c.args.flags c.requires.plain c.requires.only
