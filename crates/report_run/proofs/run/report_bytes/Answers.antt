use Rattle.std.proofs.Common.{Err, ap}
use Rattle.std.proofs.lemmas.Result.{err_from_is_err_and}
use Rattle.run_inputs.proofs.Ending.{Keeps-same}
use Rattle.run_inputs.proofs.Stages.{goes_on_by, stops}
use Rattle.report_run.specs.kept.Placed.{design_with}
use Rattle.report_run.proofs.Reading.{bytes_fail, bytes_go, lines_there}
use Rattle.report_run.proofs.run.report_bytes.Goals as goal

pub returns-in_err-routing-clause-runs : goal.returns-in_err-routing-clause-runs
returns-in_err-routing-clause-runs g c =
    let d = design_with c.args.placed.now c.args.problem.now in
    let read = rw c.netlist-netlist.ensures.netlist at c.in_err-routing.ensures.given in
    let p = err_from_is_err_and c.from_residual.result c.from_residual.ensures.1 in
    rw (p.1, p.2) (λ ne. stops _ (Keeps-same _) (bytes_fail d c.args.bytes.now _ (read (λ same. ne (ap Err same)))))

pub returns-clause-runs : goal.returns-clause-runs
returns-clause-runs g c =
    let d = design_with c.args.placed.now c.args.problem.now in
    let read = rw c.netlist-netlist.ensures.netlist at c.in_ok-routing.ensures.given in
    λ ne. goes_on_by _ _ _ (bytes_go d c.args.bytes.now c.in_ok-routing.routing read) (c.report_routing.ensures.reports ne)

pub report_routing-requires : goal.report_routing-requires
report_routing-requires g c =
    let read = rw c.netlist-netlist.ensures.netlist at c.in_ok-routing.ensures.given in
    lines_there c.args.placed.now.netlist c.args.problem.now c.args.bytes.now c.in_ok-routing.routing read
