use Rattle.text_output.proofs.Printing.{prints_then}
use Rattle.route_file.specs.Text.{routed_net_lines}
use Rattle.route_file.proofs.writing.put_listed_net.Goals as goal

pub returns : goal.returns
unfolding routed_net_lines
returns g c = prints_then c.put_blank.ensures (prints_then c.put_net_heading.ensures (prints_then c.put_blank-2.ensures c.put_pairs.ensures))
