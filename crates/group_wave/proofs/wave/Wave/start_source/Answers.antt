use Rattle.std.proofs.Common.{arith, sym, subst}
use Rattle.std.specs.Prelude.{Contains}
use Rattle.std.proofs.lemmas.Result.{on_ok_weaker}
use Rattle.group_wave.proofs.Starting.{spread_complete, spread_origins, start_best, start_wave}
use Rattle.group_wave.proofs.Starts.{on_ok_two}
use Rattle.group_wave.proofs.wave.Wave.start_source.Goals as goal

pub enter_outputs-requires-clause-wave : goal.enter_outputs-requires-clause-wave
enter_outputs-requires-clause-wave g c = start_wave c.args.ground.now c.args.self.now c.set.new.self c.args.ground.now.space.net.source (rw (c.source-source.ensures, c.zero-label.ensures) at c.in_ok-set.ensures.set) (omega (arith, c.requires.ground.space.source_in, c.requires.wave.rows)) c.requires.wave

pub enter_outputs-requires-clause-edges : goal.enter_outputs-requires-clause-edges
enter_outputs-requires-clause-edges g c pin has = (rw c.source-source.ensures at c.in_ok-successors.ensures pin).0 (subst (λ xs. Contains xs pin) c.deref.ensures has)

pub returns-clause-complete : goal.returns-clause-complete
returns-clause-complete g c = on_ok_two c.enter_outputs.result (λ spreads went. spread_complete c.args.ground.now c.args.self.now c.set.new.self c.args.ground.now.space.net.source (rw (c.source-source.ensures, c.zero-label.ensures) at c.in_ok-set.ensures.set) (omega (arith, c.requires.ground.space.source_in, c.requires.wave.rows)) c.enter_outputs.new.self spreads c.requires.complete
    (λ b edge inside. went b (subst (λ xs. Contains xs b) (sym c.deref.ensures) ((rw c.source-source.ensures at c.in_ok-successors.ensures b).1 edge)) inside)) c.enter_outputs.ensures.spreads c.enter_outputs.ensures.went

pub returns-clause-best : goal.returns-clause-best
returns-clause-best g c = on_ok_weaker c.enter_outputs.result (λ spreads. spreads.best (start_best c.args.ground.now c.args.self.now c.set.new.self c.args.ground.now.space.net.source (rw (c.source-source.ensures, c.zero-label.ensures) at c.in_ok-set.ensures.set) (omega (arith, c.requires.ground.space.source_in, c.requires.wave.rows)) c.requires.ground.space.apart c.in_ok-set.ensures.best c.requires.best)) c.enter_outputs.ensures.spreads

pub returns-clause-origins : goal.returns-clause-origins
returns-clause-origins g c = on_ok_weaker c.enter_outputs.result (λ spreads. spread_origins c.args.ground.now c.args.self.now c.set.new.self c.args.ground.now.space.net.source (rw (c.source-source.ensures, c.zero-label.ensures) at c.in_ok-set.ensures.set) (omega (arith, c.requires.ground.space.source_in, c.requires.wave.rows)) c.enter_outputs.new.self spreads) c.enter_outputs.ensures.spreads
