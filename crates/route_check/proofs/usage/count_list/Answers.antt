use Rattle.route_check.proofs.Counting.{end_there, end_room}
use Rattle.route_check.proofs.usage.count_list.Goals as goal

pub count_node-requires-in-loop-pair-clause-there : goal.count_node-requires-in-loop-pair-clause-there
count_node-requires-in-loop-pair-clause-there c =
    end_there c.args.source c.args.pairs.now c.args.counts.now c.loop-pair.counts c.loop-pair.pair-index c.loop-pair-test.true c.requires.room
    c.loop-pair.invariant

pub count_node-requires-in-loop-pair-clause-room : goal.count_node-requires-in-loop-pair-clause-room
count_node-requires-in-loop-pair-clause-room c =
    end_room c.args.source c.args.pairs.now c.args.counts.now c.loop-pair.counts c.loop-pair.pair-index c.loop-pair-test.true c.requires.room
    c.loop-pair.invariant
