use Rattle.std.proofs.Common.{subst}
use Rattle.text_output.specs.Printing.{PrintsTo}
use Rattle.text_output.proofs.Printing.{prints_then}
use Rattle.run_inputs.proofs.Lines.{lines_more}
use Rattle.report_run.specs.WireTypes.{type_line_at}
use Rattle.report_run.proofs.wire_types.put_types.Goals as goal

pub loop-number-preserved : goal.loop-number-preserved
loop-number-preserved g c =
    let sink = g.W.ByteSink in
    let s = c.args.out.now in
    let t = c.put_type_at.new.out in
    subst (PrintsTo sink s t) (lines_more (type_line_at c.args.types.now) c.loop-number.number) (prints_then c.loop-number.invariant c.put_type_at.ensures)
