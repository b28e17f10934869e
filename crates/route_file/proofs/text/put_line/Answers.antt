use Rattle.text_output.proofs.Printing.{prints_then}
use Rattle.route_file.proofs.text.put_line.Goals as goal

pub returns : goal.returns
returns g c = prints_then c.put_pieces.ensures c.push.ensures
