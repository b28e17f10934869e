use Rattle.std.proofs.Common.{◌≡◌, ◌<◌, Some, ap, sym, subst, ◌∙◌}
use Rattle.rr_graph.specs.Designs.{problem_with}
use Rattle.width_search.specs.Reports.{Negotiates, Report}
use Rattle.width_search.specs.Widths.{next_width}
use Rattle.width_search.proofs.Searching.{IsSearch, fewer_trials, search_begun, search_more, trials_left, width_within}
use Rattle.width_search.proofs.search.least_width.Goals as goal
use Rattle.width_search.proofs.search.least_width.Goals.{In-Some}

pub loop-width-init : goal.loop-width-init
loop-width-init g c =
    let comes_to = Negotiates (problem_with c.args.mode c.args.arch.now c.args.netlist.now c.args.placement.now) c.args.settings.now c.args.workers (g.G.Gate.accepted c.args.gate.now) in
    subst (IsSearch comes_to c.args.start) (sym c.new-report.ensures) (search_begun comes_to c.args.start)

next : (g : _) (c : In-Some g) → next_width c.args.start c.loop-width.report.trials ≡ Some c.in-Some.width
next g c = ap (next_width c.args.start) (sym c.trials.ensures) ∙ (sym c.next_width.ensures ∙ c.in-Some.is)

pub negotiate_at-requires-clause-tracks : goal.negotiate_at-requires-clause-tracks
negotiate_at-requires-clause-tracks g c κs within =
    let comes_to = Negotiates (problem_with c.args.mode c.args.arch.now c.args.netlist.now c.args.placement.now) c.args.settings.now c.args.workers (g.G.Gate.accepted c.args.gate.now) in
    width_within comes_to c.args.start c.requires.start c.loop-width.report c.in-Some.width c.loop-width.invariant
    (next g (goal.at.negotiate_at-requires-clause-tracks g c).In-Some)

pub loop-width-smaller : goal.loop-width-smaller
loop-width-smaller g c =
    let comes_to = Negotiates (problem_with c.args.mode c.args.arch.now c.args.netlist.now c.args.placement.now) c.args.settings.now c.args.workers (g.G.Gate.accepted c.args.gate.now) in
    subst (λ (r : Report). trials_left r.trials < trials_left c.loop-width.report.trials) (sym c.in_ok-add.ensures.adds)
    (fewer_trials comes_to c.args.start c.requires.start c.loop-width.report c.in-Some.width c.loop-width.invariant
    (next g (goal.at.loop-width-smaller g c).In-Some) c.in_ok-outcome.outcome)

pub loop-width-preserved : goal.loop-width-preserved
loop-width-preserved g c =
    let comes_to = Negotiates (problem_with c.args.mode c.args.arch.now c.args.netlist.now c.args.placement.now) c.args.settings.now c.args.workers (g.G.Gate.accepted c.args.gate.now) in
    subst (IsSearch comes_to c.args.start) (sym c.in_ok-add.ensures.adds)
    (search_more comes_to c.args.start c.requires.start c.loop-width.report c.in-Some.width c.loop-width.invariant
    (next g (goal.at.loop-width-preserved g c).In-Some) c.in_ok-outcome.outcome c.in_ok-outcome.ensures)

pub add-requires : goal.add-requires
add-requires g c =
    let comes_to = Negotiates (problem_with c.args.mode c.args.arch.now c.args.netlist.now c.args.placement.now) c.args.settings.now c.args.workers (g.G.Gate.accepted c.args.gate.now) in
    width_within comes_to c.args.start c.requires.start c.loop-width.report c.in-Some.width c.loop-width.invariant
    (next g (goal.at.add-requires g c).In-Some)
