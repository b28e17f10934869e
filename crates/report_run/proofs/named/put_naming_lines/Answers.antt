use Rattle.std.proofs.Common.{subst}
use Rattle.text_output.specs.Printing.{PrintsTo}
use Rattle.text_output.proofs.Printing.{prints_then}
use Rattle.run_inputs.proofs.Lines.{lines_more}
use Rattle.report_run.specs.Named.{named_at}
use Rattle.report_run.proofs.named.put_naming_lines.Goals as goal

pub loop-index-preserved : goal.loop-index-preserved
loop-index-preserved g c =
    let sink = g.W.ByteSink in
    let s = c.args.out.now in
    let t = c.put_named_at.new.out in
    subst (PrintsTo sink s t) (lines_more (named_at c.args.device.now c.args.uses.now c.args.lines.now) c.loop-index.index) (prints_then c.loop-index.invariant c.put_named_at.ensures)
