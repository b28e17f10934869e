use Rattle.std.proofs.Common.{subst}
use Rattle.text_output.specs.Printing.{PrintsTo}
use Rattle.text_output.proofs.Printing.{prints_then}
use Rattle.run_inputs.proofs.Lines.{lines_more}
use Rattle.report_run.specs.JsonReport.{named_item}
use Rattle.report_run.proofs.json_overused.put_named_lines.Goals as goal

pub loop-index-preserved : goal.loop-index-preserved
loop-index-preserved g c =
    let sink = g.W.ByteSink in
    let s = c.args.out.now in
    let t = c.put_named_at-is_next.new.out in
    (subst (PrintsTo sink s t) (lines_more (named_item c.args.device.now c.args.uses.now c.args.lines.now) c.loop-index.index) (prints_then c.loop-index.invariant.0 c.put_named_at-is_next.ensures.named), c.put_named_at-is_next.ensures.next)
