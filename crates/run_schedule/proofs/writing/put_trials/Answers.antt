use Rattle.std.proofs.Common.{subst}
use Rattle.text_output.specs.Printing.{PrintsTo}
use Rattle.text_output.proofs.Printing.{prints_then}
use Rattle.run_schedule.specs.ScheduleTexts.{trial_text}
use Rattle.run_schedule.proofs.Printed.{texts_more}
use Rattle.run_schedule.proofs.writing.put_trials.Goals as goal

pub loop-trial-preserved : goal.loop-trial-preserved
loop-trial-preserved g c =
    let sink = g.W.ByteSink in
    let s = c.args.out.now in
    let t = c.put_trial.new.out in
    let more = texts_more trial_text c.args.trials.now c.loop-trial.trial-index c.trial-item.result c.loop-trial-test.true in
    let printed = rw c.trial-item.is at c.put_trial.ensures in
    subst (PrintsTo sink s t) more (prints_then c.loop-trial.invariant printed)
