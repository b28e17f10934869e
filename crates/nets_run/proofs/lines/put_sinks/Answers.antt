use Rattle.std.proofs.Common.{subst}
use Rattle.text_output.specs.Printing.{PrintsTo}
use Rattle.text_output.proofs.Printing.{prints_then}
use Rattle.nets_run.specs.Nets.{sink_text}
use Rattle.nets_run.proofs.Printed.{each_more}
use Rattle.nets_run.proofs.lines.put_sinks.Goals as goal

pub loop-node-preserved : goal.loop-node-preserved
loop-node-preserved g c =
    let sink = g.W.ByteSink in
    let s = c.args.out.now in
    let t = c.put_sink.new.out in
    subst (PrintsTo sink s t) (each_more sink_text c.args.nodes.now c.loop-node.node-index _ c.loop-node-test.true) (prints_then c.loop-node.invariant c.put_sink.ensures)
