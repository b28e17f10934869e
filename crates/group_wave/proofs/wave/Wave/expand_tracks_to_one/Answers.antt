use Rattle.std.proofs.Common.{sym, ◌∙◌}
use Rattle.std.proofs.lemmas.Result.{on_ok_weaker}
use Rattle.wave_queue.specs.kept.Queues.{entry_of}
use Rattle.group_wave.proofs.Beside.{beside_offer, beside_within, none_inside}
use Rattle.group_wave.proofs.wave.Wave.expand_tracks_to_one.Goals as goal

pub group-requires : goal.group-requires
group-requires g c = beside_within c.args.ground.now (entry_of g.K.Key.value c.args.entry) c.requires.out.ground c.args.neighbour c.requires.beside c.requires.out.live.tracks c.args.self.now c.requires.out.live

pub returns-then-not-is_span_inside-clause-took : goal.returns-then-not-is_span_inside-clause-took
returns-then-not-is_span_inside-clause-took g c =
    none_inside c.args.ground.now (entry_of g.K.Key.value c.args.entry) c.requires.out.ground c.args.neighbour c.requires.beside c.requires.out.live.tracks c.args.self.now
    (rw c.group.ensures.group at (sym c.is_span_inside.ensures ∙ c.if-not-is_span_inside.true))

pub relax-requires-clause-there : goal.relax-requires-clause-there
relax-requires-clause-there g c = beside_within c.args.ground.now (entry_of g.K.Key.value c.args.entry) c.requires.out.ground c.args.neighbour c.requires.beside c.requires.out.live.tracks c.args.self.now c.requires.out.live

pub relax-requires-clause-offer : goal.relax-requires-clause-offer
relax-requires-clause-offer g c =
    beside_offer c.args.ground.now (entry_of g.K.Key.value c.args.entry) c.requires.out.ground c.args.neighbour c.requires.beside c.requires.out.live.tracks c.args.self.now c.args.group.now c.requires.out.group c.requires.out.live
    (rw c.group.ensures.group at (sym c.is_span_inside.ensures ∙ c.if-not-is_span_inside.false))

pub returns-clause-took : goal.returns-clause-took
returns-clause-took g c = on_ok_weaker c.relax.result (λ offered j one inside. offered.went j one) c.relax.ensures
