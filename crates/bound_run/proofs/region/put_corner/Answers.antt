use Rattle.text_output.proofs.Printing.{prints_then}
use Rattle.bound_run.specs.CutTexts.{corner_text}
use Rattle.bound_run.proofs.region.put_corner.Goals as goal

pub returns : goal.returns
unfolding corner_text
returns g c =
    let first = rw c.begins_run.ensures at c.put_if.ensures in
    let last = rw c.ends_run.ensures at c.put_if-2.ensures in
    prints_then first last
