use Rattle.std.proofs.Common.{sym, ◌∙◌}
use Rattle.std.proofs.lemmas.Bool.{false≢true}
use Rattle.run_inputs.specs.Runs.{writing}
use Rattle.runs.proofs.Widths.{found_bound, found_late, report_written}
use Rattle.runs.proofs.width_report.write_report.Goals as goal

pub returns-in_ok-problem-in-Some-clause-writes : goal.returns-in_ok-problem-in-Some-clause-writes
returns-in_ok-problem-in-Some-clause-writes g c =
    let route = writing (g.R.ByteSink.taken c.args.route.now) (g.R.ByteSink.taken c.write_found.new.route) (g.R.ByteSink.failed c.write_found.new.route) in
    let out = writing (g.W.ByteSink.taken c.args.out.now) (g.W.ByteSink.taken c.write_found.new.out) (g.W.ByteSink.failed c.write_found.new.out) in
    λ _. report_written route out c.args.mode c.args.placed.now c.args.report.now c.in-Some.least.now c.in_ok-problem-in-Some.problem (tt {0}) c.write_found.result
    c.in-Some.ensures.least c.in_ok-problem-in-Some.ensures.made c.write_found.ensures.writes

pub returns-in_ok-problem-in-Some-clause-route : goal.returns-in_ok-problem-in-Some-clause-route
returns-in_ok-problem-in-Some-clause-route g c = λ free. absurd (false≢true (sym (found_bound _ _ _ _ _ _ c.write_found.ensures.writes) ∙ free))

pub returns-in_ok-problem-in-Some-clause-out : goal.returns-in_ok-problem-in-Some-clause-out
returns-in_ok-problem-in-Some-clause-out g c = λ free. absurd (false≢true (sym (found_bound _ _ _ _ _ _ c.write_found.ensures.writes) ∙ free))

pub returns-in_ok-problem-in-Some-clause-late : goal.returns-in_ok-problem-in-Some-clause-late
returns-in_ok-problem-in-Some-clause-late g c = found_late _ _ _ _ _ _ c.write_found.ensures.writes
