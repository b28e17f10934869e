use Rattle.std.proofs.Common.{subst}
use Rattle.bound_run.specs.Bounds.{IsTrueOf}
use Rattle.report_run.proofs.run.report_bounded.Goals as goal

pub returns-clause-prints : goal.returns-clause-prints
returns-clause-prints g c =
    let found = c.in-Ok.found in
    let printed = rw c.in-Ok.ensures.figures at c.print_report.ensures in
    λ ne. (found.cut, printed, subst (IsTrueOf c.args.design.now.placed.now) c.in-Ok.ensures.figures c.in-Ok.ensures.sound)
