use Rattle.width_search.specs.Widths.{next_width}
use Rattle.run_inputs.specs.Inputs.{placed_with}
use Rattle.runs.proofs.Widths.{report_placed}
use Rattle.runs.proofs.search_plan.search_widths.Goals as goal

pub returns-clause-report : goal.returns-clause-report
returns-clause-report g c =
    let w = c.args.widths.now in
    let seen = placed_with c.arch.result.now c.netlist.result.now c.placement.result.now in
    report_placed w.mode w.run.settings.now w.run.workers (g.G.Gate.accepted w.run.gate.now) (next_width c.args.start) c.in_ok-report.report w.placed.now seen
    c.arch.ensures c.netlist.ensures.netlist c.placement.ensures.placement c.in_ok-report.ensures
