use Rattle.node_numbers.proofs.NodesFound.{found_pad_of_column}
use Rattle.node_numbers.proofs.decoding.in_side_column.Goals as goal

pub returns : goal.returns
returns c =
    let row = c.side_row_found-row.ensures in
    found_pad_of_column c.args.layout.now c.args.kind c.requires.terminal c.args.x c.side_row_found-row.result.line c.side_row_found-row.result.rest c.args.rest c.requires.column c.requires.outside
    row.from row.within row.rest row.before
