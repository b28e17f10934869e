use Rattle.std.proofs.Common.{subst}
use Rattle.text_output.specs.Printing.{PrintsTo}
use Rattle.text_output.proofs.Printing.{prints_then}
use Rattle.run_inputs.proofs.Lines.{lines_more}
use Rattle.bound_run.specs.CutTexts.{row_text}
use Rattle.bound_run.proofs.region.put_region.Goals as goal

pub loop-y-preserved : goal.loop-y-preserved
loop-y-preserved g c =
    let sink = g.W.ByteSink in
    let s = c.args.out.now in
    let t = c.put_row.new.out in
    subst (PrintsTo sink s t) (lines_more (row_text c.args.nx c.args.cut.now) c.loop-y.y) (prints_then c.loop-y.invariant c.put_row.ensures)
