use Rattle.text_output.proofs.Printing.{prints_then}
use Rattle.report_run.specs.WireTypes.{type_line}
use Rattle.report_run.proofs.wire_types.put_type.Goals as goal

pub returns : goal.returns
unfolding type_line
returns g c =
    let wires = rw (c.from.ensures, c.from-2.ensures) at c.put_share.ensures in
    prints_then c.push.ensures (prints_then c.put_number.ensures (prints_then c.push-2.ensures (prints_then c.put_number-2.ensures
    (prints_then c.push-3.ensures (prints_then wires (prints_then c.push-4.ensures (prints_then c.put_share-2.ensures c.push-5.ensures)))))))
