use Rattle.std.proofs.Common.{arith, ap, refl, sym, false}
use Rattle.std.proofs.lemmas.Result.{on_ok_weaker}
use Rattle.wave_queue.specs.kept.Queues.{Waiting}
use Rattle.group_wave.proofs.Lower.{keeps, label_here, still_bound}
use Rattle.group_wave.proofs.Offered.{one_track}
use Rattle.group_wave.proofs.Relaxed.{lowered, relaxed_alone}
use Rattle.group_wave.proofs.wave.Wave.lower_to.Goals as goal

pub set-requires-clause-there : goal.set-requires-clause-there
set-requires-clause-there g c = let rows = c.requires.wave.rows in let within = c.requires.from.within in omega (arith, rows, within)

pub returns : goal.returns
returns g c =
    let value = g.K.Key.value in
    let ground = c.args.ground.now in
    let was = c.args.self.now in
    let set = c.set.new.self in
    let wire = c.args.to.wire in
    let label = value c.args.step.label in
    let wave = c.requires.wave in
    let narrow = g.met.K.Key.narrow in
    let sum = c.requires.cost in
    let fits = c.requires.fits in
    let rows = wave.rows in
    let within = c.requires.from.within in
    let entry : Waiting = record { key = value c.args.key; label = value c.args.cost; group = c.args.step.group; tracks = c.with_bit.result; begun = false } in
    let here = ap (λ l. l.cost) (label_here ground was set wire _ c.in_ok-set.ensures.set (omega (arith, rows, within))) in
    let low = lowered ground c.requires.ground was wave label wire c.args.to.parent c.requires.from set (value c.args.cost) (value c.args.price) c.requires.price c.in_ok-set.ensures.set c.in_ok-set.ensures.best
    c.requires.less (omega (arith, fits, narrow)) (omega (arith, sum)) (omega (arith, sum)) in
    on_ok_weaker c.wait.result (λ pushed. relaxed_alone ground c.requires.ground was wave label wire c.args.to.parent c.requires.from
    set (value c.args.cost) (value c.args.price) c.requires.price c.in_ok-set.ensures.set c.in_ok-set.ensures.best
    c.requires.less (omega (arith, fits, narrow)) (omega (arith, sum)) (omega (arith, sum))
    c.wait.new.self entry (value c.args.step.least) pushed
    (record { holds = record { track = c.args.to.track; bit = c.with_bit.ensures.here; wire = c.requires.to.is }; label = sym here })
    (still_bound ground was set wire _ (keeps was set low.origins) c.requires.low)
    (one_track ground entry c.args.to.track c.with_bit.ensures c.requires.to.on) refl)
    c.wait.ensures.pushed
