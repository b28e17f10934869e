use Rattle.std.proofs.Common.{◌≡◌, [], ◌∷◌, ◌++◌, arith, ap, sym, ◌∙◌}
use mathlib.Core.List.{IsPrefix}
use Rattle.route_tree.specs.TreeLists.{list_of_tree}
use Rattle.congestion_book.specs.Turns.{turns_at}
use Rattle.congestion_book.specs.Steps.{after_turn}
use Rattle.net_workers.specs.kept.TurnLogs.{plan_of}
use Rattle.net_workers.proofs.Logs.{desk_follows, desk_routes, ended, not_ended, logged_more, logged_kept}
use Rattle.net_workers.proofs.turn_desk.TurnDesk.make_turn.Goals as goal

pub add-requires-clause-legal : goal.add-requires-clause-legal
add-requires-clause-legal g c =
    let round = g.L.Round in
    let q = plan_of round.opening round.present round.bb round.workers in
    let turn = c.turn_of-turn.ensures in
    let pre : IsPrefix c.args.found.log c.self.inside.front = rw c.seen.ensures at (c.begins.ensures.begun c.if-not-begins.false) in
    let none : turns_at c.self.inside.desk.turns c.args.found.net ≡ 0 = rw c.net-net.ensures at (c.holds.ensures c.if-not-holds.false) in
    rw c.again-front.ensures
    (desk_follows g.L.Logged.plan q c.self.inside.desk c.self.inside.front c.self.invariant c.args.found c.turn_of-turn.result pre
    (omega (arith, turn.worker, c.worker.ensures.exact, c.worker.ensures.known)) turn.net turn.tree turn.seen none turn.found)

pub exchange-requires : goal.exchange-requires
exchange-requires g c =
    let round = g.L.Round in
    let q = plan_of round.opening round.present round.bb round.workers in
    record {
      routes =
          rw c.net-net.ensures
          (desk_routes g.L.Logged.plan q c.self.inside.desk c.self.inside.front c.self.invariant c.args.found c.args.tree.now c.requires.copy c.turn_of-turn.ensures.found);
    }

pub invariant_of-self : goal.invariant_of-self
invariant_of-self g c =
    let round = g.L.Round in
    let q = plan_of round.opening round.present round.bb round.workers in
    logged_kept g.L.Logged.plan q c.self.inside.desk c.self.inside.front c.self.invariant c.exchange.new.self
    (not_ended c.self.inside.desk c.exchange.new.self c.args.share.now.worker c.net-net.result (list_of_tree c.args.tree.now) c.exchange.result
    (sym c.is_err.ensures.value ∙ c.if-is_err.true) c.exchange.ensures.step)

pub invariant_of-self-2 : goal.invariant_of-self-2
invariant_of-self-2 g c =
    let round = g.L.Round in
    let q = plan_of round.opening round.present round.bb round.workers in
    let turn = c.turn_of-turn.ensures in
    let t = c.turn_of-turn.result in
    let more : c.add.new.self ≡ c.self.inside.front ++ t ∷ [] = c.if-not-add.ensures ∙ ap (λ log. log ++ t ∷ []) c.again-front.ensures in
    let end : c.exchange.new.self ≡ after_turn c.self.inside.desk c.args.share.now.worker c.net-net.result (list_of_tree c.args.tree.now) =
    ended c.self.inside.desk c.exchange.new.self c.args.share.now.worker c.net-net.result (list_of_tree c.args.tree.now) c.exchange.result
    (sym c.is_err.ensures.value ∙ c.if-is_err.false) c.exchange.ensures.step in
    let worker : c.args.share.now.worker ≡ t.worker = sym c.worker.ensures.exact ∙ sym turn.worker in
    let net : c.net-net.result ≡ t.entry.net = c.net-net.ensures ∙ sym turn.net in
    let tree : c.args.tree.now ≡ t.entry.tree = c.requires.copy ∙ sym turn.tree in
    let is : c.exchange.new.self ≡ after_turn c.self.inside.desk t.worker t.entry.net (list_of_tree t.entry.tree) =
    end ∙ ap (λ w. after_turn c.self.inside.desk w c.net-net.result (list_of_tree c.args.tree.now)) worker
    ∙ (ap (λ n. after_turn c.self.inside.desk t.worker n (list_of_tree c.args.tree.now)) net ∙ ap (λ r. after_turn c.self.inside.desk t.worker t.entry.net (list_of_tree r)) tree) in
    logged_more g.L.Logged.plan q c.self.inside.desk c.self.inside.front c.self.invariant t c.exchange.new.self c.add.new.self is more
