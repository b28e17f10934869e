use Rattle.std.proofs.Common.{arith}
use Rattle.net_workers.specs.kept.TurnLogs.{book_after}
use Rattle.net_workers.proofs.Replicas.{listed_there, shows_open, lacks_open, searched, still_replica}
use Rattle.net_workers.proofs.replica.Replica.search.Goals as goal

pub opening_tree-own-requires : goal.opening_tree-own-requires
opening_tree-own-requires g c =
    let p = g.L.Logged.plan in
    let is_open = rw c.deref.ensures.value at (c.is_open.ensures.0 c.if-not-is_open.false) in
    listed_there p c.self.inside.view c.self.inside.turned.items c.self.inside.front c.self.invariant (omega (arith, is_open.0, c.self.invariant.nets.all))

pub leave_net-requires : goal.leave_net-requires
leave_net-requires g c =
    let p = g.L.Logged.plan in
    let is_open = rw c.deref.ensures.value at (c.is_open.ensures.0 c.if-not-is_open.false) in
    record {
      shown = (
        book_after p c.self.inside.front,
        shows_open p c.self.inside.view c.self.inside.turned.items c.self.inside.front c.self.invariant c.args.net c.opening_tree-own.result.now is_open.0 is_open.1 c.opening_tree-own.ensures,
      );
    }

pub return_net-requires : goal.return_net-requires
return_net-requires g c =
    let p = g.L.Logged.plan in
    let is_open = rw c.deref.ensures.value at (c.is_open.ensures.0 c.if-not-is_open.false) in
    let shows = shows_open p c.self.inside.view c.self.inside.turned.items c.self.inside.front c.self.invariant c.args.net c.opening_tree-own.result.now is_open.0 is_open.1 c.opening_tree-own.ensures in
    record {
      lacks = (
        book_after p c.self.inside.front,
        lacks_open p c.self.inside.view c.self.inside.turned.items c.self.inside.front c.self.invariant c.args.net c.opening_tree-own.result.now c.leave_net.new.view shows (c.leave_net.ensures (book_after p c.self.inside.front) shows),
      );
    }

pub new-requires : goal.new-requires
new-requires g c =
    let p = g.L.Logged.plan in
    let is_open = rw c.deref.ensures.value at (c.is_open.ensures.0 c.if-not-is_open.false) in
    let shows = shows_open p c.self.inside.view c.self.inside.turned.items c.self.inside.front c.self.invariant c.args.net c.opening_tree-own.result.now is_open.0 is_open.1 c.opening_tree-own.ensures in
    rw c.again.ensures
    (searched p c.self.inside.view c.self.inside.turned.items c.self.inside.front c.self.invariant c.args.net c.in_ok-found.field-0 c.leave_net.new.view
    (omega (arith, is_open.0, c.self.invariant.nets.all)) (c.leave_net.ensures (book_after p c.self.inside.front) shows) c.in_ok-found.ensures.found c.in_ok-found.ensures.routes)

pub invariant_of-self : goal.invariant_of-self
invariant_of-self g c =
    let p = g.L.Logged.plan in
    let is_open = rw c.deref.ensures.value at (c.is_open.ensures.0 c.if-not-is_open.false) in
    let shows = shows_open p c.self.inside.view c.self.inside.turned.items c.self.inside.front c.self.invariant c.args.net c.opening_tree-own.result.now is_open.0 is_open.1 c.opening_tree-own.ensures in
    let lacks = lacks_open p c.self.inside.view c.self.inside.turned.items c.self.inside.front c.self.invariant c.args.net c.opening_tree-own.result.now c.leave_net.new.view shows (c.leave_net.ensures (book_after p c.self.inside.front) shows) in
    still_replica p c.self.inside.view c.self.inside.turned.items c.self.inside.front c.self.invariant c.return_net.new.view (c.return_net.ensures (book_after p c.self.inside.front) lacks)

pub invariant_of-self-2 : goal.invariant_of-self-2
invariant_of-self-2 g c =
    let p = g.L.Logged.plan in
    let is_open = rw c.deref.ensures.value at (c.is_open.ensures.0 c.if-not-is_open.false) in
    let shows = shows_open p c.self.inside.view c.self.inside.turned.items c.self.inside.front c.self.invariant c.args.net c.opening_tree-own.result.now is_open.0 is_open.1 c.opening_tree-own.ensures in
    let lacks = lacks_open p c.self.inside.view c.self.inside.turned.items c.self.inside.front c.self.invariant c.args.net c.opening_tree-own.result.now c.leave_net.new.view shows (c.leave_net.ensures (book_after p c.self.inside.front) shows) in
    still_replica p c.self.inside.view c.self.inside.turned.items c.self.inside.front c.self.invariant c.return_net.new.view (c.return_net.ensures (book_after p c.self.inside.front) lacks)
