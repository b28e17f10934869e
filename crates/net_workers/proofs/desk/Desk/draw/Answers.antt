use Rattle.net_workers.proofs.Draws.{shows_net}
use Rattle.net_workers.proofs.desk.Desk.draw.Goals as goal

pub returns-clause-shown : goal.returns-clause-shown
returns-clause-shown g c =
    let even = c.self.invariant.0 in
    shows_net g.L.Round.opening c.self.inside.book c.draw.new.self c.args.view.now c.draw.new.view c.worker.result c.draw.result c.problem-sound.ensures.sound even.within c.draw.ensures.step
