use Rattle.std.proofs.Common.{◌≡◌, ◌+◌, ◌-◌, arith, inr, length, subst}
use Rattle.std.specs.Prelude.{Contains, drop}
use Rattle.group_wave.specs.kept.Steps.{IsStarted}
use Rattle.group_wave.proofs.StartWays.{started_more, started_none, way_may_start, way_node}
use Rattle.group_wave.proofs.wave.Wave.start_way.Goals as goal

pub loop-left-init : goal.loop-left-init
loop-left-init g c = record { within = omega arith; started = started_none c.args.ground.now c.requires.ground c.args.self.now c.args.way.now (length c.args.way.now) (omega arith) c.requires.wave c.requires.complete }

pub start-requires-clause-there : goal.start-requires-clause-there
start-requires-clause-there g c = way_node c.args.ground.now c.requires.ground c.args.way.now (c.loop-left.left - 1) c.requires.walk (omega (arith, c.loop-left.invariant.within, c.loop-left-test.true))

pub start-requires-clause-may : goal.start-requires-clause-may
start-requires-clause-may g c =
    let next : c.loop-left.left - 1 + 1 ≡ c.loop-left.left = omega (arith, c.loop-left-test.true) in
    way_may_start c.args.ground.now c.requires.ground c.loop-left.self c.args.way.now (c.loop-left.left - 1) c.requires.walk (omega (arith, c.loop-left.invariant.within, c.loop-left-test.true))
    (λ v later. (c.loop-left.invariant.started.origins v).1 (inr (subst (λ n. Contains (drop n c.args.way.now) v) next later)))

pub loop-left-preserved : goal.loop-left-preserved
loop-left-preserved g c =
    let next : c.loop-left.left ≡ c.loop-left.left - 1 + 1 = omega (arith, c.loop-left-test.true) in
    record {
      within = omega (arith, c.loop-left.invariant.within);
      started = started_more c.args.ground.now c.requires.ground c.args.self.now c.loop-left.self c.start.new.self c.args.way.now (c.loop-left.left - 1) (omega (arith, c.loop-left.invariant.within, c.loop-left-test.true))
          (subst (λ n. IsStarted c.args.ground.now c.args.self.now c.loop-left.self (drop n c.args.way.now)) next c.loop-left.invariant.started) c.in_ok-start.ensures;
    }

pub returns : goal.returns
returns g c =
    let none : c.loop-left.left ≡ 0 = omega (arith, c.loop-left-test.false) in
    record { started = subst (λ n. IsStarted c.args.ground.now c.args.self.now c.loop-left.self (drop n c.args.way.now)) none c.loop-left.invariant.started }
