use Rattle.run_inputs.proofs.Stages.{goes_on_by, meets_so}
use Rattle.runs.proofs.graph.graph_run.Goals as goal

pub returns-clause-runs : goal.returns-clause-runs
returns-clause-runs g c =
    λ ne. let printed = rw c.in_ok-device.ensures at (c.print_listing.ensures.printed ne) in
    meets_so c.in_ok-arch.ensures (λ a h. goes_on_by _ _ _ h printed)
