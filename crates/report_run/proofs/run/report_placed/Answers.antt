use Rattle.report_run.proofs.run.report_placed.Goals as goal

pub returns-clause-runs : goal.returns-clause-runs
returns-clause-runs g c = rw c.in-Ok.ensures.made at c.report_design.ensures.runs
