use Rattle.std.proofs.Common.{Contains, get_or, inl, inr, not, refl, ap, subst}
use Rattle.std.proofs.lemmas.Bool.{cases_Bool}
use Rattle.std.proofs.lemmas.List.Elements.{Contains-get_or}
use Rattle.wave_queue.specs.kept.Queues.{entry_of}
use Rattle.group_wave.proofs.Beside.{but_noted, but_settled}
use Rattle.group_wave.proofs.wave.Wave.unsettled.Goals as goal

pub is_settled-is_settled-requires-clause-beside : goal.is_settled-is_settled-requires-clause-beside
is_settled-is_settled-requires-clause-beside g c = subst (λ hs. Contains hs (get_or c.args.neighbours.now c.loop-at.at 0)) c.requires.beside (Contains-get_or c.args.neighbours.now c.loop-at.at 0 c.loop-at-test.true)

pub loop-at-preserved : goal.loop-at-preserved
loop-at-preserved g c =
    let ground = c.args.ground.now in
    let e = entry_of g.K.Key.value c.args.entry in
    let hs = c.args.neighbours.now in
    elim (cases_Bool c.is_settled-is_settled.result) [
      | inl settled ↦ rw (c.with_bit_if-places.ensures.kept (ap not settled)) (but_settled ground e c.args.self.now hs c.loop-at.at _ c.loop-at.places refl c.loop-at.invariant (c.is_settled-is_settled.ensures settled))
      | inr not_yet ↦ but_noted ground e c.args.self.now hs c.loop-at.at c.loop-at.places c.with_bit_if-places.result (c.with_bit_if-places.ensures.put (ap not not_yet)) c.loop-at.invariant
    ]
