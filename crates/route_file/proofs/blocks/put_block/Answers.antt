use Rattle.text_output.proofs.Printing.{prints_then}
use Rattle.route_file.specs.TextLine.{bytes_on}
use Rattle.route_file.proofs.blocks.put_block.Goals as goal

pub returns : goal.returns
unfolding bytes_on
returns g c =
    prints_then
    (prints_then c.push.ensures (prints_then c.push-2.ensures (prints_then c.push-3.ensures (prints_then c.put_number.ensures (prints_then c.push-4.ensures (prints_then c.put_place.ensures (prints_then c.push-5.ensures (prints_then c.put_class.ensures c.push-6.ensures))))))))
    c.push-7.ensures
