use Rattle.std.proofs.Common.{subst}
use Rattle.text_output.specs.Printing.{PrintsTo}
use Rattle.text_output.proofs.Printing.{prints_then}
use Rattle.run_schedule.proofs.Printed.{iterations_more}
use Rattle.run_schedule.proofs.writing.put_iterations.Goals as goal

pub loop-index-preserved : goal.loop-index-preserved
loop-index-preserved g c =
    let sink = g.W.ByteSink in
    let s = c.args.out.now in
    let t = c.put_iteration.new.out in
    let turns = c.index-iterations-index.result in
    let more = iterations_more c.args.iterations.now c.loop-index.index turns c.loop-index-test.true in
    let printed = rw (c.as_slice.ensures, c.index-iterations-index.is) at c.put_iteration.ensures in
    subst (PrintsTo sink s t) more (prints_then c.loop-index.invariant printed)
