use Rattle.std.proofs.Common.{rules, ◌≡◌, length, map, subst, ap, ◌∙◌}
use Rattle.net_workers.specs.kept.TurnLogs.{IsLegal, plan_of, entries_of, turn_in_schedule}
use Rattle.net_workers.proofs.Entries.{agrees_by, schedule_by}
use Rattle.net_workers.proofs.iterating.book_and_reports.Goals as goal

pub returns-clause-agrees : goal.returns-clause-agrees
returns-clause-agrees g c =
    let round = g.L.Round in
    let parts = c.into_parts-book.ensures in
    let turns : c.in_ok-turns.turns.items ≡ c.args.desk = c.in_ok-turns.ensures.turns ∙ parts.history in
    let legal : IsLegal (plan_of round.opening round.present round.bb round.workers) c.args.desk = rw parts.plan at parts.legal in
    let reports = c.in_ok-reports.ensures in
    let done = c.is_done.ensures in
    let count : length c.in_ok-reports.reports.items ≡ round.workers = search rules in
    agrees_by round.opening c.into_parts-book.result.0 round.present round.bb round.workers c.args.desk c.in_ok-reports.reports.items legal parts.sound parts.within parts.lists parts.turns
    (done.once.0 c.if-not-is_done.false) (done.free c.if-not-is_done.false) count parts.known
    (λ w low. reports.each w (rw c.requires.workers low) ∙ ap (entries_of w) turns)

pub returns-clause-allowed : goal.returns-clause-allowed
returns-clause-allowed g c =
    let parts = c.into_parts-book.ensures in
    let turns : c.in_ok-turns.turns.items ≡ c.args.desk = c.in_ok-turns.ensures.turns ∙ parts.history in
    let reports = c.in_ok-reports.ensures in
    let count : length c.in_ok-reports.reports.items ≡ c.args.options.workers = search rules in (
      map turn_in_schedule c.args.desk,
      schedule_by c.into_parts-book.result.0 c.args.options.workers c.args.desk c.in_ok-reports.reports.items parts.turns count
          (λ w low. reports.each w low ∙ ap (entries_of w) turns),
      subst (λ ts. g.G.Gate.accepted c.args.gate.now c.args.options.iteration (map turn_in_schedule ts)) turns c.in_ok-turns.ensures.accepted,
    )
