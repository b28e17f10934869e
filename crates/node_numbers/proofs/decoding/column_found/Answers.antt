use Rattle.std.proofs.Common.{◌≡◌, ℕ, ◌+◌, ◌-◌, ◌*◌, ◌/◌, ◌%◌, ◌≤◌, sym, ap, ◌∙◌, arith}
use Rattle.channel_tables.specs.Fabric.{Fabric}
use Rattle.node_numbers.specs.kept.Columns.{columns_length}
use Rattle.node_numbers.proofs.PlaceStarts.{column_passed}
use Rattle.node_numbers.proofs.decoding.column_found.Goals as goal

passed : (f : Fabric) (count at ny pads : ℕ) → ny ≡ f.ny → pads ≡ f.architecture.io_rat → ny * pads ≤ at
    → columns_length f count ((at - ny * pads) / (2 * pads + ny * count) + 1) + (at - ny * pads) % (2 * pads + ny * count) ≡ at
passed f count at ny pads e h l = let m : f.ny * f.architecture.io_rat ≤ at = rw (sym e, sym h) l in rw (e, h) (column_passed f count at m)

pub returns-then-passed-nx-clause-before : goal.returns-then-passed-nx-clause-before
returns-then-passed-nx-clause-before c =
    passed c.args.layout.now c.args.count c.args.at c.ny-ny.result c.io_rat-pads.result c.ny-ny.ensures.entry (c.io_rat-pads.ensures.entry ∙ ap (λ a. a.io_rat) c.architecture.ensures.architecture) (omega arith)
