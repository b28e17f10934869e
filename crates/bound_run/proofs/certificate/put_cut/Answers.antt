use Rattle.text_output.proofs.Printing.{prints_then}
use Rattle.bound_run.specs.CutTexts.{cut_text}
use Rattle.bound_run.proofs.certificate.put_cut.Goals as goal

pub returns : goal.returns
unfolding cut_text
returns g c =
    let head = rw c.requires at c.put_head.ensures in
    let region = rw (c.nx-nx.ensures.entry, c.ny-ny.ensures.entry, c.placement-placement.ensures.placement) at c.put_region.ensures in
    let places = rw c.places.ensures at c.put_places.ensures in
    let pins = rw c.pins.ensures at c.put_pins.ensures in
    prints_then head (prints_then region (prints_then places pins))
