use Rattle.std.proofs.Common.{[], subst, take, sym, ap, ◌∙◌}
use Rattle.std.specs.List.{flat_map}
use Rattle.std.proofs.lemmas.List.{flat_map_more, take_more}
use Rattle.text_output.specs.Printing.{PrintsTo}
use Rattle.text_output.proofs.Printing.{prints_then}
use Rattle.runs.specs.Texts.{edge_line}
use Rattle.runs.proofs.listing.put_edge_lines.Goals as goal

pub loop-to-preserved : goal.loop-to-preserved
loop-to-preserved g c =
    let sink = g.W.ByteSink in
    let s = c.args.out.now in
    let t = c.put_edge_line.new.out in
    let line = edge_line c.args.is_typed c.args.device.now c.args.from in
    let more = flat_map_more line [] (take c.loop-to.to-index c.args.list.now) _ ∙ ap (flat_map line) (sym (take_more c.args.list.now c.loop-to.to-index 0 c.loop-to-test.true)) in
    subst (PrintsTo sink s t) more (prints_then c.loop-to.invariant c.put_edge_line.ensures)
