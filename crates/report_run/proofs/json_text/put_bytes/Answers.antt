use Rattle.std.proofs.Common.{subst}
use Rattle.text_output.specs.Printing.{PrintsTo}
use Rattle.text_output.proofs.Printing.{prints_then}
use Rattle.run_inputs.proofs.Lines.{lines_more}
use Rattle.report_run.specs.Json.{byte_text}
use Rattle.report_run.proofs.json_text.put_bytes.Goals as goal

pub loop-index-preserved : goal.loop-index-preserved
loop-index-preserved g c =
    let sink = g.W.ByteSink in
    let s = c.args.out.now in
    let t = c.put_byte.new.out in
    subst (PrintsTo sink s t) (lines_more (byte_text c.args.bytes.now) c.loop-index.index) (prints_then c.loop-index.invariant c.put_byte.ensures)
