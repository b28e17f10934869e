use Rattle.std.proofs.lemmas.Result.{IfOk-weaker}
use Rattle.route_check.proofs.Judging.{judged}
use Rattle.route_check.proofs.judge.tree_fault.Goals as goal

pub returns : goal.returns
returns c =
    IfOk-weaker c.list_fault.result _ _
    (judged c.args.problem.now c.args.net c.requires c.args.pairs.now c.source.ensures.limits c.device.result.now c.source.result
    c.sinks.result.now
    c.device.ensures.device c.source.ensures.source c.sinks.ensures)
    c.list_fault.ensures
