use Rattle.std.proofs.Common.{length, arith, sym, ap, ◌∙◌}
use Rattle.rr_graph.specs.Problems.{RoutingProblem}
use Rattle.run_inputs.proofs.Ending.{Keeps-same}
use Rattle.nets_run.specs.Nets.{nets_text}
use Rattle.nets_run.proofs.Endings.{nothing_printed, something_printed}
use Rattle.nets_run.proofs.Printed.{no_lines, some_lines}
use Rattle.nets_run.proofs.run.print_nets.Goals as goal

pub returns-then-nets-eq0-clause-prints : goal.returns-then-nets-eq0-clause-prints
returns-then-nets-eq0-clause-prints g c =
    let d = c.args.design.now in
    let same = ap (λ (p : RoutingProblem). length p.nets) c.problem-problem.ensures.problem in
    let none = sym same ∙ (sym c.nets.ensures.count ∙ c.if-nets-eq0.true) in
    nothing_printed _ (nets_text d.netlist d.problem) (no_lines d.netlist d.problem none) (Keeps-same _)

pub returns-clause-prints : goal.returns-clause-prints
returns-clause-prints g c =
    let d = c.args.design.now in
    let same = ap (λ (p : RoutingProblem). length p.nets) c.problem-problem.ensures.problem in
    let printed = rw (c.netlist-netlist.ensures, c.problem-problem.ensures.problem) at c.print_lines.ensures in
    something_printed _ _ (nets_text d.netlist d.problem) (some_lines d.netlist d.problem (omega (arith, c.if-nets-eq0.false, c.nets.ensures.count, same))) printed
