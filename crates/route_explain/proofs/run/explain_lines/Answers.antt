use Rattle.route_explain.proofs.run.explain_lines.Goals as goal

pub returns : goal.returns
returns g c =
    let prints = rw (c.netlist-netlist.ensures, c.problem-problem.ensures.problem) at c.explain.ensures.prints in
    record { prints = prints; memory = c.explain.ensures.memory }
