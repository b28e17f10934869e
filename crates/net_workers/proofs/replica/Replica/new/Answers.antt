use Rattle.net_workers.proofs.Replicas.{first_replica}
use Rattle.net_workers.proofs.replica.Replica.new.Goals as goal

pub invariant_of-result : goal.invariant_of-result
invariant_of-result g c = rw (c.requires.none, c.requires.nets) (first_replica g.L.Logged.plan c.args.view c.requires.shows)
