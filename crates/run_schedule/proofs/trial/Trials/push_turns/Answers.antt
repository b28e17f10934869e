use Rattle.std.proofs.Common.{ap, refl, ◌∙◌}
use Rattle.run_schedule.specs.kept.Growing.{with_iteration}
use Rattle.run_schedule.proofs.Growing.{grown}
use Rattle.run_schedule.proofs.trial.Trials.push_turns.Goals as goal

pub returns-clause-ok : goal.returns-clause-ok
returns-clause-ok c =
    let trials = c.self.inside.trials in
    let last = c.in-Some.ensures in
    let more = grown trials.items trials.len trials.ok.0 (last.variant.0 refl) c.in-Some.trial.now c.push.new.self last.value c.args.turns c.in_ok-push.ensures.ok in
    more ∙ ap (λ ts. with_iteration ts c.args.turns) c.self.view_is
