use Rattle.net_workers.specs.kept.Pages.{IsNext}
use Rattle.net_workers.specs.kept.TurnLogs.{book_after}
use Rattle.net_workers.proofs.Replicas.{listed_there, may_replay, replayed}
use Rattle.net_workers.proofs.replica.Replica.replay.Goals as goal

pub opening_tree-before-requires : goal.opening_tree-before-requires
opening_tree-before-requires g c =
    let p = g.L.Logged.plan in
    let next = c.is_next.ensures.next c.if-not-is_next.false in
    listed_there p c.self.inside.view c.self.inside.turned.items c.self.inside.front c.self.invariant (rw c.turn.ensures next.follows.net)

pub replace_net-requires : goal.replace_net-requires
replace_net-requires g c =
    let p = g.L.Logged.plan in
    let next = c.is_next.ensures.next c.if-not-is_next.false in
    record {
      shown = (
        book_after p c.self.inside.front,
        may_replay p c.self.inside.view c.self.inside.turned.items c.self.inside.front c.self.invariant c.turn.result.now c.opening_tree-before.result.now (rw c.turn.ensures next.follows) c.opening_tree-before.ensures,
      );
    }

pub invariant_of-self : goal.invariant_of-self
invariant_of-self g c =
    let p = g.L.Logged.plan in
    let t = c.turn.result.now in
    let next : IsNext p c.self.inside.front t c.args.page.now.log = rw c.turn.ensures (c.is_next.ensures.next c.if-not-is_next.false) in
    let may = may_replay p c.self.inside.view c.self.inside.turned.items c.self.inside.front c.self.invariant t c.opening_tree-before.result.now next.follows c.opening_tree-before.ensures in
    rw (c.again.ensures, c.front.ensures)
    (replayed p c.self.inside.view c.self.inside.turned.items c.self.inside.front c.self.invariant t c.args.page.now.log c.replace_net.new.view next (c.replace_net.ensures (book_after p c.self.inside.front) may))
