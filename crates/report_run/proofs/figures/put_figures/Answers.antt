use Rattle.text_output.proofs.Printing.{prints_then}
use Rattle.report_run.specs.Report.{figure_lines}
use Rattle.report_run.proofs.figures.put_figures.Goals as goal

pub returns : goal.returns
unfolding figure_lines
returns g c =
    let device = rw c.device-device.ensures.device at c.put_device.ensures in
    let uses = rw c.device-device.ensures.device at c.put_uses.ensures in
    prints_then device (prints_then c.put_bound.ensures (prints_then c.put_nets.ensures (prints_then uses c.put_lengths.ensures)))
