use Rattle.std.proofs.Common.{subst, arith}
use Rattle.text_output.specs.Printing.{PrintsTo}
use Rattle.text_output.proofs.Printing.{prints_then}
use Rattle.rr_graph.specs.Problems.{no_net}
use Rattle.nets_run.specs.Nets.{net_line}
use Rattle.nets_run.proofs.Printed.{all_lines, each_more}
use Rattle.nets_run.proofs.lines.put_nets.Goals as goal

pub loop-net-preserved : goal.loop-net-preserved
loop-net-preserved g c =
    let sink = g.W.ByteSink in
    let s = c.args.out.now in
    let t = c.put_line.new.out in
    let nets = c.args.problem.now.nets in
    subst (PrintsTo sink s t) (each_more (net_line c.args.netlist.now) nets c.loop-net.net no_net (omega (arith, c.loop-net-test.true, c.nets-net-end.ensures.count))) (prints_then c.loop-net.invariant c.put_line.ensures)

pub returns : goal.returns
returns g c =
    let sink = g.W.ByteSink in
    let s = c.args.out.now in
    let t = c.loop-net.out in
    subst (PrintsTo sink s t) (all_lines c.args.netlist.now c.args.problem.now c.loop-net.net (omega (arith, c.loop-net-test.false, c.nets-net-end.ensures.count))) c.loop-net.invariant
