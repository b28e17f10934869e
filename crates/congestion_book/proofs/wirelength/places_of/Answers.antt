use Rattle.std.proofs.Common.{◌≡◌, ◌+◌, ℕ, drop, get_or, arith}
use Rattle.std.specs.List.{sum_by}
use Rattle.route_tree.specs.declared.tree.Row.{Row}
use Rattle.route_tree.specs.Rows.{no_row}
use Rattle.route_report.specs.Wirelength.{places_at}
use Rattle.congestion_book.proofs.Lengths.{places_next, places_past}
use Rattle.congestion_book.proofs.wirelength.places_of.Goals as goal

pub loop-row-preserved : goal.loop-row-preserved
loop-row-preserved c =
    let g : Row → ℕ = λ r. places_at c.args.device.now r.node in
    let rows = c.args.rows.now in
    let k = c.loop-row.row-index in
    let so_far : c.loop-row.places + sum_by g (drop k rows) ≡ sum_by g rows = c.loop-row.invariant in
    let here : c.places_at-places.result ≡ g (get_or rows k no_row) = c.places_at-places.ensures.places in
    omega (arith, so_far, here, places_next g rows k c.loop-row-test.true)

pub returns : goal.returns
returns c =
    let g : Row → ℕ = λ r. places_at c.args.device.now r.node in
    let rows = c.args.rows.now in
    let so_far : c.loop-row.places + sum_by g (drop c.loop-row.row-index rows) ≡ sum_by g rows = c.loop-row.invariant in
    omega (arith, so_far, places_past g rows c.loop-row.row-index c.loop-row-test.false)
