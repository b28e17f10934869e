use Rattle.std.proofs.Common.{◌∙◌, sym, arith}
use Rattle.std.proofs.lemmas.Result.{on_ok_weaker}
use Rattle.group_wave.proofs.Outputs.{drive_group, drive_offer, drive_outside, drive_took}
use Rattle.group_wave.proofs.wave.Wave.drive_tracks.Goals as goal

pub group-requires : goal.group-requires
group-requires g c = drive_group c.args.ground.now c.requires.ground c.args.pin c.requires.pin _ c.requires.drive (omega (arith, c.if-tracks-eq0.false)) (omega (arith, c.ranges.tracks.fits))

pub returns-then-not-is_span_inside-clause-took : goal.returns-then-not-is_span_inside-clause-took
returns-then-not-is_span_inside-clause-took g c = drive_outside c.args.ground.now c.requires.ground c.args.pin c.requires.pin _ c.requires.drive c.args.self.now _ (sym (rw c.group.ensures.group at c.is_span_inside.ensures) ∙ c.if-not-is_span_inside.true)

pub relax-requires-clause-there : goal.relax-requires-clause-there
relax-requires-clause-there g c = drive_group c.args.ground.now c.requires.ground c.args.pin c.requires.pin _ c.requires.drive (omega (arith, c.if-tracks-eq0.false)) (omega (arith, c.ranges.tracks.fits))

pub relax-requires-clause-offer : goal.relax-requires-clause-offer
relax-requires-clause-offer g c = drive_offer c.args.ground.now c.requires.ground c.args.pin c.requires.pin _ c.requires.drive c.args.self.now _ c.requires.from (sym (rw c.group.ensures.group at c.is_span_inside.ensures) ∙ c.if-not-is_span_inside.false)

pub returns-clause-took : goal.returns-clause-took
returns-clause-took g c = on_ok_weaker c.relax.result (λ r. drive_took c.args.ground.now c.requires.ground c.args.pin c.requires.pin _ c.requires.drive c.args.self.now c.relax.new.self _ r) c.relax.ensures
