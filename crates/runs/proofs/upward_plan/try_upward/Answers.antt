use Rattle.width_search.specs.Widths.{next_upward}
use Rattle.run_inputs.specs.Inputs.{placed_with}
use Rattle.runs.specs.kept.Negotiated.{Negotiated}
use Rattle.runs.proofs.Verified.{upward_planned}
use Rattle.runs.proofs.Widths.{report_placed}
use Rattle.runs.proofs.upward_plan.try_upward.Goals as goal

pub returns-clause-report : goal.returns-clause-report
returns-clause-report g c =
    let w = c.args.widths.now in
    let allows = g.G.Gate.accepted w.run.gate.now in
    let seen = placed_with c.arch.result.now c.netlist.result.now c.placement.result.now in
    let searched =
    report_placed w.mode w.run.settings.now w.run.workers allows (next_upward c.first_width-first.result) c.in_ok-report.report w.placed.now seen
    c.arch.ensures c.netlist.ensures.netlist c.placement.ensures.placement c.in_ok-report.ensures.report in
    upward_planned (Negotiated g.G.Gate.accepted w) w.placed.now c.args.start c.first_width-first.result c.args.figures
    c.in_ok-report.report c.requires.start.0 c.first_width-first.ensures c.requires.sound searched c.in_ok-report.ensures.upward c.in_ok-report.ensures.ends

pub returns-clause-tried : goal.returns-clause-tried
returns-clause-tried g c = rw c.first_width-first.ensures at c.in_ok-report.ensures.upward
