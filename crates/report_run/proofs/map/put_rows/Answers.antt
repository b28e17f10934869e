use Rattle.std.proofs.Common.{subst}
use Rattle.text_output.specs.Printing.{PrintsTo}
use Rattle.text_output.proofs.Printing.{prints_then}
use Rattle.run_inputs.proofs.Lines.{lines_more}
use Rattle.report_run.specs.Map.{row_lines}
use Rattle.report_run.proofs.map.put_rows.Goals as goal

pub loop-above-preserved : goal.loop-above-preserved
loop-above-preserved g c =
    let sink = g.W.ByteSink in
    let s = c.args.out.now in
    let t = c.put_row.new.out in
    subst (PrintsTo sink s t) (lines_more (row_lines c.args.device.now c.args.channels.now c.args.over.now) c.loop-above.above) (prints_then c.loop-above.invariant c.put_row.ensures)
