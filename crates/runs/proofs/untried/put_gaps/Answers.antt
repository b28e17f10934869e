use Rattle.std.proofs.Common.{subst}
use Rattle.text_output.specs.Printing.{PrintsTo}
use Rattle.text_output.proofs.Printing.{prints_then}
use Rattle.run_inputs.proofs.Lines.{lines_more}
use Rattle.runs.specs.Untried.{gap_text}
use Rattle.runs.proofs.untried.put_gaps.Goals as goal

pub loop-width-preserved : goal.loop-width-preserved
loop-width-preserved g c =
    let sink = g.W.ByteSink in
    let s = c.args.out.now in
    let t = c.put_width.new.out in
    subst (PrintsTo sink s t) (lines_more (gap_text c.args.trials.now c.args.bound c.args.past c.args.first) c.loop-width.width) (prints_then c.loop-width.invariant c.put_width.ensures)
