-- The outcomes that a negotiation at a width of a placed netlist may have.
use Rattle.std.specs.Prelude.{ℕ}
use Rattle.iteration.specs.declared.outcome.Outcome.{Outcome}
use Rattle.net_workers.specs.Schedules.{TurnRule}
use Rattle.width_search.specs.Reports.{Negotiates}
use Rattle.run_inputs.specs.Inputs.{placed_problem}
use Rattle.runs.specs.declared.tried_widths.Widths.{Widths}

-- at a width, if the run's gate accepts turns by this rule
abbrev pub Negotiated : {T G S : Type 0} → (accepted : G → TurnRule) → Widths T G S → (width : ℕ) → Outcome → Type 0
Negotiated accepted w = Negotiates (placed_problem w.mode w.placed.now) w.run.settings.now w.run.workers (accepted w.run.gate.now)
