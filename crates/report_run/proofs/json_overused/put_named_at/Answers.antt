use Rattle.report_run.specs.JsonReport.{named_item}
use Rattle.report_run.proofs.json_overused.put_named_at.Goals as goal

pub returns-clause-named : goal.returns-clause-named
unfolding named_item
returns-clause-named g c = rw (c.at.ensures, c.overused_on-node.ensures, c.requires.next) at c.put_named.ensures
