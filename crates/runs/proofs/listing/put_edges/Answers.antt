use Rattle.std.proofs.Common.{◌+◌, subst, arith, sym, ◌∙◌}
use Rattle.text_output.specs.Printing.{PrintsTo}
use Rattle.text_output.proofs.Printing.{prints_then}
use Rattle.rr_graph.specs.Nodes.{node_count_of}
use Rattle.runs.specs.Listing.{edge_lines_at}
use Rattle.run_inputs.proofs.Lines.{lines_more}
use Rattle.runs.proofs.Lines.{prints_broken_lines}
use Rattle.runs.proofs.listing.put_edges.Goals as goal

pub loop-id-preserved : goal.loop-id-preserved
loop-id-preserved g c =
    let sink = g.W.ByteSink in
    let s = c.args.out.now in
    let t = c.put_edges_of.new.out in
    (subst (PrintsTo sink s t) (lines_more (edge_lines_at c.args.is_typed c.args.device.now) c.loop-id.id) (prints_then c.loop-id.invariant.0 c.put_edges_of.ensures.sends), omega arith)

pub returns-then-is_broken : goal.returns-then-is_broken
returns-then-is_broken g c =
    let sink = g.W.ByteSink in
    let s = c.args.out.now in
    let t = c.put_edges_of.new.out in
    prints_broken_lines (edge_lines_at c.args.is_typed c.args.device.now) (c.loop-id.id + 1) (node_count_of c.args.device.now) (omega (arith, c.node_count-id-end.ensures.count))
    (subst (PrintsTo sink s t) (lines_more (edge_lines_at c.args.is_typed c.args.device.now) c.loop-id.id) (prints_then c.loop-id.invariant.0 c.put_edges_of.ensures.sends))
    (sym c.is_broken.ensures ∙ c.if-is_broken.true)
