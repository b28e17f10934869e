use Rattle.std.proofs.Common.{subst}
use Rattle.text_output.specs.Printing.{PrintsTo}
use Rattle.text_output.proofs.Printing.{prints_then}
use Rattle.report_run.proofs.Parts.{parts_more}
use Rattle.report_run.proofs.json_parts.put_parts.Goals as goal

pub loop-part-preserved : goal.loop-part-preserved
loop-part-preserved g c =
    let sink = g.W.ByteSink in
    let s = c.args.out.now in
    let t = c.put_part.new.out in
    let more = parts_more c.args.parts.now c.loop-part.part-index _ c.loop-part-test.true in
    subst (PrintsTo sink s t) more (prints_then c.loop-part.invariant c.put_part.ensures)
