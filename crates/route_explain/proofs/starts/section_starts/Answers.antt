use Rattle.std.proofs.Common.{◌∙◌}
use Rattle.route_explain.proofs.Starting.{none_start, starts_more}
use Rattle.route_explain.proofs.starts.section_starts.Goals as goal

pub loop-index-init : goal.loop-index-init
loop-index-init c =
    let zeros = c.in_ok-starts.ensures.items_if_clones_equal (λ y e. e) in
    let all = rw c.nets.ensures.entry at zeros in
    all ∙ none_start c.args.netlist.now c.args.lines.now

pub loop-index-preserved : goal.loop-index-preserved
loop-index-preserved c =
    let noted_here = rw (c.loop-index.invariant, c.net_begun.ensures) at c.note.ensures in
    noted_here ∙ starts_more c.args.netlist.now c.args.lines.now c.loop-index.index
