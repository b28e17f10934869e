use Rattle.report_run.proofs.text.put_mean.Goals as goal

pub returns : goal.returns
returns g c = rw c.some_of.ensures.most at c.put_quotient.ensures
