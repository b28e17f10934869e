use Rattle.std.proofs.Common.{arith}
use Rattle.std.proofs.lemmas.Result.{on_ok_weaker}
use Rattle.group_wave.proofs.Starts.{on_ok_two}
use Rattle.group_wave.proofs.Outputs.{output_no_sink}
use Rattle.group_wave.proofs.Starting.{spread_starts, start_best, start_here, start_wave}
use Rattle.group_wave.proofs.wave.Wave.start_output.Goals as goal

pub drive-requires-clause-wave : goal.drive-requires-clause-wave
drive-requires-clause-wave g c = start_wave c.args.ground.now c.args.self.now c.set.new.self c.args.pin (rw c.zero-label.ensures at c.in_ok-set.ensures.set) (omega (arith, c.requires.there, c.requires.wave.rows)) c.requires.wave

pub drive-requires-clause-from : goal.drive-requires-clause-from
drive-requires-clause-from g c =
    let here = start_here c.args.ground.now c.args.self.now c.set.new.self c.args.pin (rw c.zero-label.ensures at c.in_ok-set.ensures.set) (omega (arith, c.requires.there, c.requires.wave.rows)) in
    omega (arith, here.0)

pub returns-clause-starts : goal.returns-clause-starts
returns-clause-starts g c = on_ok_two c.drive.result (λ spreads went. spread_starts c.args.ground.now c.args.self.now c.set.new.self c.args.pin (rw c.zero-label.ensures at c.in_ok-set.ensures.set) (omega (arith, c.requires.there, c.requires.wave.rows)) c.drive.new.self spreads c.requires.complete (rw c.zero-label.ensures at went)) c.drive.ensures.spreads c.drive.ensures.went

pub returns-clause-best : goal.returns-clause-best
returns-clause-best g c = on_ok_weaker c.drive.result (λ spreads best. spreads.best (start_best c.args.ground.now c.args.self.now c.set.new.self c.args.pin (rw c.zero-label.ensures at c.in_ok-set.ensures.set) (omega (arith, c.requires.there, c.requires.wave.rows))
    (λ wanted. output_no_sink c.args.ground.now.space.device c.args.pin c.requires.pin (c.requires.ground.space.are_sinks c.args.pin wanted)) c.in_ok-set.ensures.best best)) c.drive.ensures.spreads
