use Rattle.vpr_text.proofs.WordBytes.{lines_have_words}
use Rattle.net_file.proofs.reading.netlist_in.Goals as goal

pub read-requires : goal.read-requires
read-requires c = record { words = lines_have_words c.args.source.now c.in-Ok.lines c.in-Ok.ensures }
