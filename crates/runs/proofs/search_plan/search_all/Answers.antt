use Rattle.runs.proofs.search_plan.search_all.Goals as goal

pub returns-clause-report : goal.returns-clause-report
returns-clause-report g c = c.verify.ensures.verified c.args.start c.in_ok-report.ensures.report

pub returns-clause-tries : goal.returns-clause-tries
returns-clause-tries g c =
    let tries = c.verify.ensures.tries in
    (tries.0, record { search = c.in_ok-report.report; searched = c.in_ok-report.ensures.report; tries = tries.1 }, tries.2)
