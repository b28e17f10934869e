use Rattle.group_wave.proofs.FirstWays.{one_item}
use Rattle.group_wave.proofs.route.only_of.Goals as goal

pub returns-then-list-eq1 : goal.returns-then-list-eq1
returns-then-list-eq1 c = one_item c.args.list.now c.if-list-eq1.true
