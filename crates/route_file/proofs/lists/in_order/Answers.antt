use Rattle.std.proofs.Common.{◌<◌, length, arith}
use Rattle.route_file.proofs.Taken.{one_taken}
use Rattle.route_file.proofs.lists.in_order.Goals as goal

pub loop-net-preserved : goal.loop-net-preserved
loop-net-preserved c =
    let nets = c.args.problem.now.nets in
    let within : c.loop-net.net < length nets = omega (arith, c.nets-net-end.ensures.count, c.loop-net-test.true) in
    one_taken nets c.args.lists.items c.loop-net.lists.items c.take_list.new.lists.items c.loop-net.ordered.items c.push.new.self.items c.loop-net.net c.number.result c.take_list.result
    c.nets.ensures.limits.ascending within c.number.ensures c.take_list.ensures.taken c.take_list.ensures.left c.in_ok-push.ensures.items c.loop-net.invariant
