use Rattle.text_output.proofs.Printing.{prints_then}
use Rattle.route_explain.specs.Lines.{where_text}
use Rattle.route_explain.proofs.text.put_where.Goals as goal

pub returns : goal.returns
unfolding where_text
returns g c = prints_then c.push.ensures (prints_then c.put_line.ensures c.push-2.ensures)
