use Rattle.std.proofs.Common.{◌+◌, sym, ap, ◌∙◌}
use Rattle.node_numbers.specs.kept.Columns.{columns_length}
use Rattle.node_numbers.proofs.NodesFound.{terminal_column}
use Rattle.node_numbers.proofs.decoding.column_of.Goals as goal

pub returns-clause-before : goal.returns-clause-before
returns-clause-before c =
    terminal_column c.args.layout.now c.args.kind c.requires.terminal c.column_found.result.line c.column_found.result.rest c.args.at c.column_found.ensures.within
    (ap (λ n. columns_length c.args.layout.now n c.column_found.result.line + c.column_found.result.rest) (sym (c.count_at_block.ensures.count c.args.layout.now c.requires.block)) ∙ c.column_found.ensures.before)
