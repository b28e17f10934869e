use Rattle.std.proofs.Common.{subst}
use Rattle.route_check.specs.kept.Answers.{TellsExcess}
use Rattle.route_check.proofs.Answering.{judged_by_use}
use Rattle.route_check.proofs.usage.overuse.Goals as goal

pub returns : goal.returns
returns c =
    let p = c.args.problem.now in
    let answer = c.least_overused.result in
    judged_by_use p c.args.lists.now c.requires.one_each c.requires.routed c.in_ok-counts.counts.items c.in_ok-counts.ensures answer
    (subst (λ f. TellsExcess f c.in_ok-counts.counts.items answer) c.device.ensures.device
    (subst (λ counts. TellsExcess c.device.result.now counts answer) c.deref.ensures.value c.least_overused.ensures))
