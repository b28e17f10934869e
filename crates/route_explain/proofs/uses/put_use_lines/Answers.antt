use Rattle.std.proofs.Common.{arith, refl, subst, sym, ◌∙◌}
use Rattle.text_output.specs.Printing.{PrintsTo}
use Rattle.text_output.proofs.Printing.{prints_none, prints_then}
use Rattle.route_file.specs.Sections.{latest}
use Rattle.run_inputs.proofs.Lines.{lines_more}
use Rattle.route_explain.specs.Uses.{use_text_at}
use Rattle.route_explain.proofs.Walking.{latest_next}
use Rattle.route_explain.proofs.uses.put_use_lines.Goals as goal

pub loop-index-init : goal.loop-index-init
unfolding latest
loop-index-init g c = (prints_none c.args.out.now, refl)

pub loop-index-preserved : goal.loop-index-preserved
unfolding use_text_at
loop-index-preserved g c =
    let sink = g.W.ByteSink in
    let s = c.args.out.now in
    let t = c.put_use_at.new.out in
    let netlist = c.args.file.now.netlist.now in
    let lines = c.args.file.now.lines.now in
    let text = use_text_at c.args.file.now.path.now netlist c.args.file.now.problem.now c.args.file.now.routing.now lines in
    let said = rw c.loop-index.invariant.1 at c.put_use_at.ensures in
    let next = rw c.loop-index.invariant.1 at c.net_behind-net.ensures in (
      subst (PrintsTo sink s t) (lines_more text c.loop-index.index) (prints_then c.loop-index.invariant.0 said),
      next ∙ sym (latest_next netlist lines c.loop-index.index (omega (arith, c.loop-index-test.true, c.len-index-end.ensures))),
    )
