use Rattle.std.proofs.Common.{refl, subst, sym, arith}
use Rattle.group_wave.specs.kept.Wave.{IsWave}
use Rattle.group_wave.specs.kept.WaveState.{FAR}
use Rattle.group_wave.proofs.Noted.{noted_group}
use Rattle.group_wave.proofs.wave.Wave.find_wires.Goals as goal

pub returns-clause-wave : goal.returns-clause-wave
returns-clause-wave g c =
    let wave = subst (λ w. IsWave c.args.ground.now w) (sym c.self.view_is) c.requires.wave in
    let within = wave.within in
    noted_group c.args.ground.now _ _ FAR
    (record { labels = refl; queue = refl; limit = omega (arith, within); best = refl; boxes = c.keep.ensures.boxes })
    c.args.group c.fewest-sight.result.wires wave c.requires.group c.keep.ensures.known
    (rw c.group.ensures.group at c.fewest-sight.ensures)
