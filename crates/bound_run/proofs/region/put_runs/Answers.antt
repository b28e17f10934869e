use Rattle.std.proofs.Common.{subst}
use Rattle.text_output.specs.Printing.{PrintsTo}
use Rattle.text_output.proofs.Printing.{prints_then}
use Rattle.run_inputs.proofs.Lines.{lines_more}
use Rattle.bound_run.specs.CutTexts.{corner_text}
use Rattle.bound_run.proofs.region.put_runs.Goals as goal

pub loop-x-preserved : goal.loop-x-preserved
loop-x-preserved g c =
    let sink = g.W.ByteSink in
    let s = c.args.out.now in
    let t = c.put_corner.new.out in
    subst (PrintsTo sink s t) (lines_more (corner_text c.args.nx c.args.cut.now c.args.y) c.loop-x.x) (prints_then c.loop-x.invariant c.put_corner.ensures)
