use Rattle.report_run.specs.Named.{named_at}
use Rattle.report_run.proofs.named.put_named_at.Goals as goal

pub returns : goal.returns
unfolding named_at
returns g c = rw (c.at.ensures, c.overused_on-node.ensures) at c.put_named.ensures
