use Rattle.std.proofs.Common.{subst}
use Rattle.text_output.specs.Printing.{PrintsTo}
use Rattle.text_output.proofs.Printing.{prints_then}
use Rattle.run_inputs.proofs.Lines.{lines_more}
use Rattle.report_run.specs.Map.{crossing_at}
use Rattle.report_run.proofs.map.put_crossings.Goals as goal

pub loop-place-preserved : goal.loop-place-preserved
loop-place-preserved g c =
    let sink = g.W.ByteSink in
    let s = c.args.out.now in
    let t = c.put_cell.new.out in
    subst (PrintsTo sink s t) (lines_more (crossing_at c.args.channels.now c.args.over.now c.args.row) c.loop-place.place) (prints_then c.loop-place.invariant c.put_cell.ensures)
