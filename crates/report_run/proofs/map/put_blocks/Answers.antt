use Rattle.std.proofs.Common.{subst}
use Rattle.text_output.specs.Printing.{PrintsTo}
use Rattle.text_output.proofs.Printing.{prints_then}
use Rattle.run_inputs.proofs.Lines.{lines_more}
use Rattle.report_run.specs.Map.{block_at}
use Rattle.report_run.proofs.map.put_blocks.Goals as goal

pub loop-column-preserved : goal.loop-column-preserved
loop-column-preserved g c =
    let sink = g.W.ByteSink in
    let s = c.args.out.now in
    let t = c.put_block_at.new.out in
    subst (PrintsTo sink s t) (lines_more (block_at c.args.device.now c.args.channels.now c.args.over.now c.args.place) c.loop-column.column) (prints_then c.loop-column.invariant c.put_block_at.ensures)
