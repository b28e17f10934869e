use Rattle.std.proofs.Common.{arith}
use Rattle.channel_tables.specs.declared.node.Kind.TheVariants.{Source, Sink, Opin, Ipin, Chanx, Chany}
use Rattle.node_numbers.specs.Starts.{kind_start}
use Rattle.node_numbers.proofs.NodesByPlace.{kind_within, node_count_by_kinds}
use Rattle.node_numbers.proofs.numbers.NodeNumbers.kind_below.Goals as goal

pub returns-then-id-kind_start : goal.returns-then-id-kind_start
returns-then-id-kind_start c =
    kind_within c.args.self.now Chany c.args.id (omega (arith, c.kind_start.ensures.start, c.if-id-kind_start.true))
    (omega (arith, c.requires, node_count_by_kinds c.args.self.now))

pub returns-then-id-kind_start-2 : goal.returns-then-id-kind_start-2
unfolding kind_start
returns-then-id-kind_start-2 c =
    kind_within c.args.self.now Chanx c.args.id (omega (arith, c.kind_start-2.ensures.start, c.if-id-kind_start-2.true))
    (omega (arith, c.kind_start.ensures.start, c.if-id-kind_start.false))

pub returns-then-id-kind_start-3 : goal.returns-then-id-kind_start-3
unfolding kind_start
returns-then-id-kind_start-3 c =
    kind_within c.args.self.now Ipin c.args.id (omega (arith, c.kind_start-3.ensures.start, c.if-id-kind_start-3.true))
    (omega (arith, c.kind_start-2.ensures.start, c.if-id-kind_start-2.false))

pub returns-then-id-kind_start-4 : goal.returns-then-id-kind_start-4
unfolding kind_start
returns-then-id-kind_start-4 c =
    kind_within c.args.self.now Opin c.args.id (omega (arith, c.kind_start-4.ensures.start, c.if-id-kind_start-4.true))
    (omega (arith, c.kind_start-3.ensures.start, c.if-id-kind_start-3.false))

pub returns-then-id-kind_start-5 : goal.returns-then-id-kind_start-5
unfolding kind_start
returns-then-id-kind_start-5 c =
    kind_within c.args.self.now Sink c.args.id (omega (arith, c.kind_start-5.ensures.start, c.if-id-kind_start-5.true))
    (omega (arith, c.kind_start-4.ensures.start, c.if-id-kind_start-4.false))

pub returns : goal.returns
unfolding kind_start
returns c =
    kind_within c.args.self.now Source c.args.id (omega arith) (omega (arith, c.kind_start-5.ensures.start, c.if-id-kind_start-5.false))
