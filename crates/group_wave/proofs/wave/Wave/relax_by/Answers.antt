use Rattle.std.proofs.Common.{◌<◌, arith, inl, inr}
use Rattle.std.proofs.lemmas.Bool.{cases_eq}
use Rattle.std.proofs.lemmas.Result.{on_ok_weaker}
use Rattle.group_wave.proofs.Offered.{fresh_put}
use Rattle.group_wave.proofs.RelaxedTracks.{relaxed_all}
use Rattle.group_wave.proofs.Waited.{on_ok}
use Rattle.group_wave.proofs.wave.Wave.relax_by.Goals as goal

pub returns : goal.returns
returns g c =
    let value = g.K.Key.value in
    let ground = c.args.ground.now in
    let was = c.args.self.now in
    let some = c.in_ok-fresh.ensures.relaxed in
    let fresh = c.in_ok-fresh.fresh in
    let label = value c.args.offer.label in
    let least = value c.args.step.least in
    elim (cases_eq fresh 0) [
      | inl none ↦
          let same = c.put_fresh.ensures.none none in
          on_ok c.put_fresh.result (rw same (relaxed_all ground was c.relax_tracks.new.self label least c.args.step.group c.args.tracks (rw none at some)))
      | inr more ↦
          let put : 0 < fresh = omega (arith, more) in
          on_ok_weaker c.put_fresh.result
          (fresh_put ground c.requires.ground was c.relax_tracks.new.self c.put_fresh.new.self label least c.args.step.group c.args.tracks fresh some put)
          (c.put_fresh.ensures.some put)
    ]
