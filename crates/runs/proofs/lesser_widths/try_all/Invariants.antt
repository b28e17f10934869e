use Rattle.std.proofs.Common.{ℕ, ◌≤◌, max}
use Rattle.width_search.specs.kept.Verifying.{IsVerifying}
use Rattle.runs.specs.kept.Negotiated.{Negotiated}
use Rattle.runs.specs.kept.Lesser.{IsTrying}
use Rattle.runs.specs.kept.Told.{TellsTo}
use Rattle.runs.proofs.lesser_widths.try_all.Given as goal

-- so many lesser widths were tried, and their lines printed
abbrev pub invariant-loop-step : goal.invariant-loop-step
invariant-loop-step g l =
    let comes_to = Negotiated g.G.Gate.accepted l.widths in
    let sink = g.W.ByteSink in
    (1 ≤ l.step)
    × (l.step ≤ max 1 l.step-end)
    × ((start : ℕ) → IsVerifying comes_to start l.count l.width 1 l.initial.report → IsVerifying comes_to start l.count l.width l.step l.report)
    × IsTrying comes_to l.width l.step l.initial.report l.report l.past (TellsTo sink.taken sink.failed l.initial.words l.words l.initial.is_broken l.is_broken) l.routed
