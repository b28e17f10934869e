-- What a log's sink takes at each call, and whether a warning is due (ours).
use Rattle.std.specs.Prelude.{◌≡◌, ℕ, ◌-◌, ◌/◌, ◌^◌, min, Bool, true, false, List, Option, None, Some, is_none}
use Rattle.rr_graph.specs.Problems.{RoutingProblem}
use Rattle.gates.specs.declared.trial.TrialEnd.{TrialEnd}
use Rattle.gates.specs.declared.trial.TrialEnd.TheVariants as ended
use Rattle.run_inputs.specs.Runs.{TakesAll, TakesFront, writing_to}
use Rattle.run_log.specs.declared.log_sink.LogHead.{LogHead}
use Rattle.run_log.specs.kept.LogTexts.{head_text, trial_left_text, trial_routed_text}

-- the head of a log of this run
abbrev pub log_head_text : LogHead → RoutingProblem → List ℕ
log_head_text head p = head_text head.program.now head.files p head.workers head.settings

-- the line with the outcome of a trial of a width
abbrev pub trial_text : (width : ℕ) → TrialEnd → List ℕ
trial_text width (ended.Routed iterations) = trial_routed_text width iterations
trial_text width (ended.NotRouted unrouted overused iterations) = trial_left_text width unrouted overused iterations

-- the whole milliseconds from one time to another, both in nanoseconds
abbrev pub milliseconds_between : (begin now : ℕ) → ℕ
milliseconds_between begin now = min ((now - begin) / 1_000_000) (2 ^ 64 - 1)

-- A text is written to a sink: the sink took all of it and is kept, or it failed, took a front of
-- it and is dropped.
abbrev pub TakesText : {S : Type 0} → (taken : S → Option (List ℕ)) → (failed : S → Bool) → (sink : S) → (left : Option S) → List ℕ → Type 0
TakesText taken failed sink (Some left) text = (failed left ≡ false) × TakesAll (writing_to taken failed sink left) text
TakesText {S} taken failed sink None text = (broken : S) × (failed broken ≡ true) × TakesFront (writing_to taken failed sink broken) text

-- a log is left alone, and no warning is due
abbrev pub LogStays : {S : Type 0} → (sink left : Option S) → (is_warned : Bool) → Type 0
LogStays sink left is_warned = (left ≡ sink) × (is_warned ≡ false)

-- A text is logged: if the log has a sink, the text is written to it, and a warning is due if it
-- failed; else nothing is done.
abbrev pub Logs : {S : Type 0} → (taken : S → Option (List ℕ)) → (failed : S → Bool) → (sink left : Option S) → List ℕ → (is_warned : Bool) → Type 0
Logs taken failed None left text is_warned = LogStays None left is_warned
Logs taken failed (Some sink) left text is_warned = TakesText taken failed sink left text × (is_warned ≡ is_none left)
