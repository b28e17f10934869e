use Rattle.arch_file.specs.declared.fault.ArchFault.TheVariants.{Memory}
use Rattle.arch_file.specs.Reads.{ReadsBytes}
use Rattle.arch_file.specs.Reading.{arch_of}
use Rattle.vpr_text.proofs.Readings.{given_ok, given_only}
use Rattle.arch_file.proofs.Related.{is_read, is_given}
use Rattle.arch_file.proofs.reading.parse.Goals as goal

pub returns-clause-found : goal.returns-clause-found
returns-clause-found c = given_ok Memory (ReadsBytes c.args.source.now) c.arch_in.result (arch_of c.args.source.now) c.arch_in.ensures (is_read c.args.source.now)

pub returns-clause-only : goal.returns-clause-only
returns-clause-only c = λ a reads. given_only Memory c.arch_in.result (arch_of c.args.source.now) a c.arch_in.ensures (is_given c.args.source.now a reads)
