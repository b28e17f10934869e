use Rattle.std.proofs.Common.{◌<◌, ◌+◌, false, length, get_or, take, sym, subst, ap, true, arith, ◌∙◌}
use Rattle.std.proofs.lemmas.List.{length-replicate, length-set}
use Rattle.route_tree.specs.Rows.{no_row}
use Rattle.route_tree.specs.kept.Marked.{IsMarked, nodes_of}
use Rattle.route_tree.proofs.RowTests.{met_once, next_marked}
use Rattle.route_tree.proofs.passes.has_node_twice.Goals as goal

pub loop-row-preserved : goal.loop-row-preserved
loop-row-preserved c =
    let rows = c.args.rows.now in
    let i = c.loop-row.row-index in
    let flags = c.loop-row.stamps in
    let within = c.loop-row-test.true in
    let kept = c.loop-row.invariant.2 in
    let size = ap length c.clear.ensures ∙ length-replicate (length c.args.stamps.now) false in
    let row = c.requires i no_row within in
    let below : (get_or rows i no_row).node < length flags = omega (arith, row, kept, size) in (
      subst (λ s. IsMarked s (nodes_of (take (i + 1) rows))) (sym c.mark.ensures) (next_marked rows flags i within c.loop-row.invariant.0 below),
      met_once rows flags i within c.loop-row.invariant.0 c.loop-row.invariant.1 (sym c.if-is_marked.ensures),
      ap length c.mark.ensures ∙ length-set flags (get_or rows i no_row).node true ∙ kept,
    )
