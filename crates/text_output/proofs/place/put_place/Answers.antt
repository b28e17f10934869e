use Rattle.vpr_text.proofs.Printing.{sends_then}
use Rattle.text_output.specs.NodeTexts.{place_text}
use Rattle.text_output.proofs.place.put_place.Goals as goal

pub returns : goal.returns
unfolding place_text
returns g c = sends_then c.push.ensures (sends_then c.put_number.ensures (sends_then c.push-2.ensures (sends_then c.put_number-2.ensures c.push-3.ensures)))
