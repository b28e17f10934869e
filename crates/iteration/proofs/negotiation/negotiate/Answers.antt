use Rattle.std.proofs.Common.{◌≡◌, sym, ◌∙◌}
use Rattle.std.proofs.lemmas.Result.{IfOk-weaker, IfErr-weaker}
use Rattle.net_workers.specs.declared.fault.WorkFault.TheVariants.{Memory, NoThread}
use Rattle.iteration.proofs.Advancing.{outcome_of}
use Rattle.iteration.proofs.negotiation.negotiate.Goals as goal

apart : Memory ≡ NoThread → ⊥
apart e = cc

pub returns-clause-thread : goal.returns-clause-thread
returns-clause-thread g c = IfErr-weaker c.end.result _ _ (λ fault memory thread. absurd (apart (sym memory ∙ thread))) c.end.ensures.memory

pub returns-clause-run : goal.returns-clause-run
returns-clause-run g c =
    let run = c.in_ok-negotiation.ensures in
    IfOk-weaker c.end.result _ _ (λ outcome reported. record {
      last = c.in_ok-negotiation.negotiation;
      reached = run.reached;
      ended = run.ended;
      reported = reported;
    }) c.end.ensures.outcome

pub returns-clause-outcome : goal.returns-clause-outcome
returns-clause-outcome g c =
    let run = c.in_ok-negotiation.ensures in
    IfOk-weaker c.end.result _ _
    (λ outcome reported. outcome_of c.args.problem c.args.settings.now c.args.workers (g.G.Gate.accepted c.args.gate.now) outcome run.limit (record {
      last = c.in_ok-negotiation.negotiation;
      reached = run.reached;
      ended = run.ended;
      reported = reported;
    })) c.end.ensures.outcome
