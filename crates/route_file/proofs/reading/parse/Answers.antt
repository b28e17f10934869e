use Rattle.route_file.specs.declared.fault.RouteFileFault.TheVariants.{Memory}
use Rattle.route_file.specs.Reads.{ReadsBytes}
use Rattle.route_file.specs.Reading.{routing_of}
use Rattle.vpr_text.proofs.Readings.{given_ok, given_only}
use Rattle.route_file.proofs.Related.{is_read, is_given}
use Rattle.route_file.proofs.reading.parse.Goals as goal

pub returns-clause-found : goal.returns-clause-found
returns-clause-found c =
    let netlist = c.args.netlist.now in
    let problem = c.args.problem.now in
    let bytes = c.args.source.now in
    given_ok Memory (ReadsBytes netlist problem bytes) c.routing_in.result (routing_of netlist problem bytes) c.routing_in.ensures (is_read netlist problem bytes)

pub returns-clause-only : goal.returns-clause-only
returns-clause-only c = λ r reads.
    let netlist = c.args.netlist.now in
    let problem = c.args.problem.now in
    let bytes = c.args.source.now in
    given_only Memory c.routing_in.result (routing_of netlist problem bytes) r c.routing_in.ensures (is_given netlist problem bytes r reads)
