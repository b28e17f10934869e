use Rattle.report_run.proofs.run.report_lines.Goals as goal

pub returns-clause-reports : goal.returns-clause-reports
returns-clause-reports g c = rw c.in-Ok.ensures at c.report_bounded.ensures.prints
