use Rattle.std.proofs.Common.{take}
use Rattle.std.specs.List.{flat_map}
use Rattle.text_output.specs.Printing.{PrintsTo}
use Rattle.runs.specs.WidthRun.{trial_line}
use Rattle.runs.proofs.trials.put_trials.Given as goal

-- the lines of the trials so far were sent
abbrev pub invariant-loop-trial : goal.invariant-loop-trial
invariant-loop-trial g l =
    let sink = g.W.ByteSink in
    PrintsTo sink l.initial.out l.out (flat_map trial_line (take l.trial-index l.trials))
