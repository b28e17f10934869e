use Rattle.text_output.proofs.Printing.{prints_then}
use Rattle.report_run.specs.Figures.{use_lines}
use Rattle.report_run.proofs.figures.put_uses.Goals as goal

pub returns : goal.returns
unfolding use_lines
returns g c =
    let wires = rw (c.from.ensures, c.wires_in.ensures) at c.put_share.ensures in
    let places = rw c.places_in.ensures at c.put_share-2.ensures in
    prints_then c.push.ensures (prints_then wires (prints_then c.push-2.ensures (prints_then places c.push-3.ensures)))
