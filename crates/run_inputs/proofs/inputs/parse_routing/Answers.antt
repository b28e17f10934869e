use Rattle.run_inputs.proofs.inputs.parse_routing.Goals as goal

pub returns-in-Ok-clause-fits : goal.returns-in-Ok-clause-fits
returns-in-Ok-clause-fits c = c.in-Ok.ensures.found.reads.count
