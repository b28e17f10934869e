use Rattle.std.proofs.Common.{◌∙◌, arith}
use Rattle.route_tree.specs.Rows.{pairs_of}
use Rattle.route_tree.proofs.Hanging.{there}
use Rattle.route_tree.proofs.check.fault.Goals as goal

pub returns-clause-fault : goal.returns-clause-fault
returns-clause-fault c =
    c.net_fault.ensures.fault
    ∙ there c.args.problem.now c.args.net (pairs_of c.args.rows.now) c.device.result.now c.source-source.result c.sinks-sinks.result.now
    (omega (arith, c.nets.ensures.count, c.if-net-nets.false)) c.device.ensures.device c.source-source.ensures.source c.sinks-sinks.ensures
