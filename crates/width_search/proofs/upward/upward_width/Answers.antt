use Rattle.std.proofs.Common.{◌≡◌, ◌<◌, Some, ap, sym, subst, ◌∙◌}
use Rattle.rr_graph.specs.Designs.{problem_with}
use Rattle.width_search.specs.Reports.{Negotiates, Report}
use Rattle.width_search.specs.Widths.{next_upward}
use Rattle.width_search.proofs.Climbing.{IsClimb, climb_begun, climb_fewer, climb_more, climb_width, upward_left}
use Rattle.width_search.proofs.upward.upward_width.Goals as goal
use Rattle.width_search.proofs.upward.upward_width.Goals.{In-Some}

pub loop-width-init : goal.loop-width-init
loop-width-init g c =
    let comes_to = Negotiates (problem_with c.args.design.now.mode c.args.design.now.arch.now c.args.design.now.netlist.now c.args.design.now.placement.now) c.args.how.now.settings.now c.args.how.now.workers (g.G.Gate.accepted c.args.how.now.gate.now) in
    subst (IsClimb comes_to c.args.first) (sym c.new-report.ensures) (climb_begun comes_to c.args.first)

next : (g : _) (c : In-Some g) → next_upward c.args.first c.loop-width.report.trials ≡ Some c.in-Some.width
next g c = ap (next_upward c.args.first) (sym c.trials.ensures) ∙ (sym c.next_upward.ensures ∙ c.in-Some.is)

pub negotiate_at-requires-clause-tracks : goal.negotiate_at-requires-clause-tracks
negotiate_at-requires-clause-tracks g c κs within =
    let comes_to = Negotiates (problem_with c.args.design.now.mode c.args.design.now.arch.now c.args.design.now.netlist.now c.args.design.now.placement.now) c.args.how.now.settings.now c.args.how.now.workers (g.G.Gate.accepted c.args.how.now.gate.now) in
    climb_width comes_to c.args.first c.requires.first c.loop-width.report c.in-Some.width c.loop-width.invariant
    (next g c)

pub loop-width-smaller : goal.loop-width-smaller
loop-width-smaller g c =
    let comes_to = Negotiates (problem_with c.args.design.now.mode c.args.design.now.arch.now c.args.design.now.netlist.now c.args.design.now.placement.now) c.args.how.now.settings.now c.args.how.now.workers (g.G.Gate.accepted c.args.how.now.gate.now) in
    subst (λ (r : Report). upward_left c.args.first r.trials < upward_left c.args.first c.loop-width.report.trials) (sym c.in_ok-add.ensures.adds)
    (climb_fewer comes_to c.args.first c.requires.first c.loop-width.report c.in-Some.width c.loop-width.invariant
    (next g (goal.at.loop-width-smaller g c).In-Some) c.in_ok-outcome.outcome)

pub loop-width-preserved : goal.loop-width-preserved
loop-width-preserved g c =
    let comes_to = Negotiates (problem_with c.args.design.now.mode c.args.design.now.arch.now c.args.design.now.netlist.now c.args.design.now.placement.now) c.args.how.now.settings.now c.args.how.now.workers (g.G.Gate.accepted c.args.how.now.gate.now) in
    subst (IsClimb comes_to c.args.first) (sym c.in_ok-add.ensures.adds)
    (climb_more comes_to c.args.first c.requires.first c.loop-width.report c.in-Some.width c.loop-width.invariant
    (next g (goal.at.loop-width-preserved g c).In-Some) c.in_ok-outcome.outcome c.in_ok-outcome.ensures)

pub add-requires : goal.add-requires
add-requires g c =
    let comes_to = Negotiates (problem_with c.args.design.now.mode c.args.design.now.arch.now c.args.design.now.netlist.now c.args.design.now.placement.now) c.args.how.now.settings.now c.args.how.now.workers (g.G.Gate.accepted c.args.how.now.gate.now) in
    climb_width comes_to c.args.first c.requires.first c.loop-width.report c.in-Some.width c.loop-width.invariant
    (next g (goal.at.add-requires g c).In-Some)
