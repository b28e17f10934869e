use Rattle.std.proofs.Common.{rules, arith, ◌≡◌, ◌-◌, ◌<◌, length}
use Rattle.net_workers.proofs.TurnLogs.{page_at}
use Rattle.net_workers.proofs.page.Page.into_turn.Goals as goal

pub returns : goal.returns
returns g c =
    let some : 0 < length c.self.inside.front = omega (arith, c.len-longer.ensures.length) in
    let at : length c.self.inside.front - 1 ≡ c.args.number = omega (arith, c.len-longer.ensures.length) in
    page_at c.self.inside.front c.args.all.now c.self.inside.turn c.args.number c.self.invariant (c.begins.ensures.begun (search rules)) some at
