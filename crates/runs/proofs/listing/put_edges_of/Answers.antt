use Rattle.std.proofs.Common.{subst, ap, ◌∙◌}
use Rattle.std.specs.List.{flat_map}
use Rattle.text_output.specs.Printing.{PrintsTo}
use Rattle.runs.specs.Texts.{edge_line}
use Rattle.runs.specs.Listing.{edge_lines_at}
use Rattle.runs.proofs.Lines.{ok_gives}
use Rattle.runs.proofs.listing.put_edges_of.Goals as goal

pub returns-clause-sends : goal.returns-clause-sends
unfolding edge_lines_at
returns-clause-sends g c =
    let sink = g.W.ByteSink in
    let s = c.args.out.now in
    let t = c.put_edge_lines.new.out in
    let listed = ok_gives c.successors.result (c.successors.ensures.room c.requires) c.successors.ensures.listed in
    subst (PrintsTo sink s t) (ap (flat_map (edge_line c.args.is_typed c.args.device.now c.args.id)) (c.as_slice.ensures ∙ listed)) c.put_edge_lines.ensures
