use Rattle.route_explain.specs.Explanation.{net_text_at}
use Rattle.route_explain.proofs.nets.put_net_at.Goals as goal

pub returns : goal.returns
unfolding net_text_at
returns g c = rw (c.fault_at-fault.ensures, c.deref.ensures.value) at c.put_net.ensures
