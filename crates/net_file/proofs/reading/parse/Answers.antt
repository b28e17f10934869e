use Rattle.std.proofs.Common.{subst}
use Rattle.vpr_text.specs.Readings.{Gives}
use Rattle.net_file.specs.declared.fault.NetFault.TheVariants.{Memory}
use Rattle.net_file.specs.Reads.{ReadsBytes}
use Rattle.net_file.specs.Reading.{netlist_of}
use Rattle.vpr_text.proofs.Readings.{given_ok, given_only}
use Rattle.net_file.proofs.Related.{is_read, is_given}
use Rattle.net_file.proofs.reading.parse.Goals as goal

pub returns-clause-found : goal.returns-clause-found
returns-clause-found c =
    let pins = c.args.arch.now.pins in
    let bytes = c.args.source.now in
    given_ok Memory (ReadsBytes pins bytes) c.netlist_in.result (netlist_of pins bytes)
    (subst (λ ps. Gives Memory (λ m. m) c.netlist_in.result (netlist_of ps bytes)) c.pins.ensures.entry c.netlist_in.ensures)
    (is_read pins bytes)

pub returns-clause-only : goal.returns-clause-only
returns-clause-only c = λ n reads.
    let pins = c.args.arch.now.pins in
    let bytes = c.args.source.now in
    given_only Memory c.netlist_in.result (netlist_of pins bytes) n
    (subst (λ ps. Gives Memory (λ m. m) c.netlist_in.result (netlist_of ps bytes)) c.pins.ensures.entry c.netlist_in.ensures)
    (is_given pins bytes n reads)
