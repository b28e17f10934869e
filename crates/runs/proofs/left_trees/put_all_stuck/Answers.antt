use Rattle.std.proofs.Common.{[], subst, take, sym, ap, ◌∙◌}
use Rattle.std.specs.List.{flat_map}
use Rattle.std.proofs.lemmas.List.{flat_map_more, take_more}
use Rattle.text_output.specs.Printing.{PrintsTo}
use Rattle.text_output.proofs.Printing.{prints_then}
use Rattle.runs.specs.kept.Left.{stuck_net}
use Rattle.runs.proofs.left_trees.put_all_stuck.Goals as goal

pub loop-entry-preserved : goal.loop-entry-preserved
loop-entry-preserved g c =
    let sink = g.W.ByteSink in
    let line = stuck_net c.args.netlist.now c.args.problem.now in
    let s = c.args.out.now in
    let t = c.put_stuck.new.out in
    let more = flat_map_more line [] (take c.loop-entry.entry-index c.args.stuck.now) _ ∙ ap (flat_map line) (sym (take_more c.args.stuck.now c.loop-entry.entry-index _ c.loop-entry-test.true)) in
    subst (PrintsTo sink s t) more (prints_then c.loop-entry.invariant c.put_stuck.ensures)
