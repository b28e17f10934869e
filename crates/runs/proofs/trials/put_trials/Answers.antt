use Rattle.std.proofs.Common.{[], subst, take, sym, ap, ◌∙◌}
use Rattle.std.specs.List.{flat_map}
use Rattle.std.proofs.lemmas.List.{flat_map_more, take_more}
use Rattle.text_output.specs.Printing.{PrintsTo}
use Rattle.text_output.proofs.Printing.{prints_then}
use Rattle.runs.specs.WidthRun.{trial_line}
use Rattle.runs.proofs.trials.put_trials.Goals as goal

pub loop-trial-preserved : goal.loop-trial-preserved
loop-trial-preserved g c =
    let sink = g.W.ByteSink in
    let s = c.args.out.now in
    let t = c.put_trial.new.out in
    let more = flat_map_more trial_line [] (take c.loop-trial.trial-index c.args.trials.now) _ ∙ ap (flat_map trial_line) (sym (take_more c.args.trials.now c.loop-trial.trial-index _ c.loop-trial-test.true)) in
    subst (PrintsTo sink s t) more (prints_then c.loop-trial.invariant c.put_trial.ensures)
