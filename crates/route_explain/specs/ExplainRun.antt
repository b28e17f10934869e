-- What a run of `check` that explains its verdict answers and prints (ours).
use Rattle.std.specs.Prelude.{◌≡◌, ◌≢◌, ℕ, List, Option, Result, Ok, Err}
use Rattle.route_check.specs.declared.fault.RouteFault.{RouteFault}
use Rattle.run_inputs.specs.declared.fault.AppFault.{AppFault}
use Rattle.run_inputs.specs.declared.fault.AppFault.TheVariants.{Memory}
use Rattle.run_inputs.specs.Faults.{fault_text}
use Rattle.runs.specs.CheckRun.{Judged, PrintsVerdict}
use Rattle.run_inputs.specs.Runs.{StopsOrGoesOn, TakesNothing, Writing}
use Rattle.report_run.specs.ReportRun.{Reported}
use Rattle.route_explain.specs.declared.explained.Explained.{Explained}
use Rattle.route_explain.specs.Explanation.{PrintsExplanation, PrintsLine}

-- the outcome of explaining a routing: its explanation is printed, or, if memory runs out, the line
-- of that fault
pub record IsTold (words : Writing) (path : List ℕ) (r : Reported) (told : Result (Unit {0}) AppFault) : Type 0 where
  pub prints : told ≢ Err Memory → PrintsExplanation words path r.design.netlist r.design.problem r.lines r.routing told
  pub memory : told ≡ Err Memory → PrintsLine words (fault_text Memory)

-- a verdict that was printed is explained
abbrev pub ExplainsAfter : (words : Writing) → (path : List ℕ) → Reported → Result Explained AppFault → Type 0
ExplainsAfter words path r (Ok x) = IsTold words path r x.told
ExplainsAfter words path r (Err e) = TakesNothing words

-- the verdict that is answered
abbrev pub verdict_in : Result Explained AppFault → Result (Option RouteFault) AppFault
verdict_in (Ok x) = Ok x.verdict
verdict_in (Err e) = Err e

-- the routing without the lines of its file
abbrev pub judged_of : Reported → Judged
judged_of r = record { design = r.design; routing = r.routing }

-- the line of the verdict is printed as by `check`, and the verdict is answered; it is explained
abbrev pub PrintsBoth : (out words : Writing) → (path : List ℕ) → Reported → Result Explained AppFault → Type 0
PrintsBoth out words path r result = PrintsVerdict out (judged_of r) (verdict_in result) × ExplainsAfter words path r result

abbrev pub TakeNothing : (out words : Writing) → Type 0
TakeNothing out words = TakesNothing out × TakesNothing words

-- A run, memory aside: if its files say a routing of a problem, the verdict on it is printed and
-- explained.
abbrev pub RunsExplain : (out words : Writing) → (path : List ℕ) → Result Reported AppFault → Result Explained AppFault → Type 0
RunsExplain out words path = StopsOrGoesOn (TakeNothing out words) (PrintsBoth out words path)
