use Rattle.std.proofs.Common.{arith, ◌≡◌, ◌+◌, length}
use Rattle.net_workers.proofs.TurnLogs.{next_page}
use Rattle.net_workers.proofs.page.Page.is_next.Goals as goal

pub returns-clause-next : goal.returns-clause-next
returns-clause-next g c = λ yes.
    let pre = c.begins.ensures.begun yes in
    let len : length c.args.front.now + 1 ≡ length c.self.inside.front = omega (arith, c.len-longer.ensures.length, c.len-now.ensures.length) in
    rw (← c.self.view_is) (next_page g.L.Logged.plan c.args.front.now c.self.inside.front c.self.inside.turn pre len c.self.invariant c.len-longer.ensures.legal)
