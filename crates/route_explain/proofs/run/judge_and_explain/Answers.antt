use Rattle.std.proofs.lemmas.Result.{err_from_is_err_and}
use Rattle.run_inputs.proofs.Ending.{Keeps-same}
use Rattle.route_explain.proofs.Telling.{same_fault}
use Rattle.route_explain.proofs.run.judge_and_explain.Goals as goal

pub returns-in_err-verdict-clause-judges : goal.returns-in_err-verdict-clause-judges
returns-in_err-verdict-clause-judges g c =
    let p = err_from_is_err_and c.from_residual.result c.from_residual.ensures.1 in
    rw (p.1, p.2) (λ ne. (c.in_err-verdict.ensures.judges (λ same. ne (same_fault _ _ same)), Keeps-same (g.X.ByteSink.taken c.args.words.now)))

pub returns-clause-judges : goal.returns-clause-judges
returns-clause-judges g c = λ ne. (c.in_ok-verdict.ensures.judges (λ same. absurd cc), c.explain_to-told.ensures)
