use Rattle.std.proofs.Common.{ℕ, ◌+◌, ◌≤◌, ◌≡◌, length, inl, inr, Some, true, ap, sym, ◌∙◌, arith}
use Rattle.std.proofs.lemmas.Bool.{cases_Bool}
use Rattle.std.proofs.lemmas.Bool.Decides.{nat_tests}
use Rattle.channel_tables.specs.Fabric.{is_between}
use Rattle.node_numbers.specs.Nodes.{node_of}
use Rattle.node_numbers.specs.kept.Columns.{inner_rows_length}
use Rattle.node_numbers.specs.Numbering.{block_numbers}
use Rattle.node_numbers.proofs.NodesFound.{found_at_block, found_pad_of_row}
use Rattle.node_numbers.proofs.decoding.in_block_column.Goals as goal

between : (low high n : ℕ) → is_between low high n ≡ true → (low ≤ n) × (n ≤ high)
between low high n e = (grind (arith, nat_tests), grind (arith, nat_tests))

pub returns : goal.returns
returns c =
    let f = c.args.layout.now in
    let k = c.args.kind in
    let y = c.inner_row_found-row.result.line in
    let j = c.inner_row_found-row.result.rest in
    let column = between 1 f.nx c.args.x c.requires.inside in
    let before : inner_rows_length f (length (block_numbers f k)) y + j ≡ c.args.rest = ap (λ n. inner_rows_length f n y + j) (sym (c.count_at_block.ensures.count c.args.layout.now c.requires.block)) ∙ c.inner_row_found-row.ensures.before in
    elim (cases_Bool (is_between 1 f.ny y)) [
      | inl inside ↦
          let row = between 1 f.ny y inside in
          found_at_block f k c.requires.terminal c.args.x y j c.inner_number-number.result c.args.rest column.0 column.1 row.0 row.1 (c.inner_number-number.ensures.block inside) before
      | inr out ↦
          found_pad_of_row f k c.requires.terminal c.args.x y j c.args.rest column.0 column.1 c.inner_row_found-row.ensures.within out (c.inner_number-number.ensures.few out) before
          ∙ ap (λ n. Some (node_of k c.args.x y n)) (sym (c.inner_number-number.ensures.pad out))
    ]
