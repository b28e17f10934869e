use Rattle.std.proofs.lemmas.Result.{err_from_is_err_and}
use Rattle.run_inputs.specs.Runs.{writing}
use Rattle.run_inputs.proofs.Ending.{Keeps-same}
use Rattle.bound_run.specs.Bounds.{bound_lines}
use Rattle.bound_run.specs.CutTexts.{cut_text}
use Rattle.bound_run.proofs.Found.{unprinted}
use Rattle.bound_run.proofs.run.print_both.Goals as goal

pub returns-in_err-print_bound : goal.returns-in_err-print_bound
returns-in_err-print_bound g c =
    let sink = g.W.ByteSink in
    let taken = g.C.ByteSink.taken c.args.cut.now in
    let p = err_from_is_err_and c.from_residual.result c.from_residual.ensures.1 in
    rw (p.1, p.2) (unprinted (bound_lines c.args.figures) (cut_text c.args.placed.now c.args.found.now)
    (writing taken taken (g.C.ByteSink.failed c.args.cut.now)) (sink.taken c.args.out.now) (sink.taken c.print_bound.new.out) (sink.failed c.print_bound.new.out)
    c.in_err-print_bound.field-0.0 c.in_err-print_bound.ensures (Keeps-same taken))
