use Rattle.std.proofs.Common.{inl, inr, sym, ◌∙◌}
use Rattle.std.proofs.lemmas.Bool.{cases_Bool, false≢true}
use Rattle.wave_queue.specs.kept.Queues.{entry_of}
use Rattle.group_wave.proofs.Left.{left_less, left_more}
use Rattle.group_wave.proofs.wave.Wave.tracks_left.Goals as goal

pub has_cost-has-requires-clause-there : goal.has_cost-has-requires-clause-there
has_cost-has-requires-clause-there g c = c.requires.there c.take_bit-track.result (c.loop-rest.invariant.rest_of c.take_bit-track.result c.take_bit-track.ensures.taken.was)

pub loop-rest-preserved : goal.loop-rest-preserved
loop-rest-preserved g c =
    let track = c.take_bit-track.result in
    let e = entry_of g.K.Key.value c.args.entry in
    elim (cases_Bool c.has_cost-has.result) [
      | inl has ↦ left_more c.args.self.now c.args.group.now e c.loop-rest.rest c.take_bit-track.new.bits c.loop-rest.left track c.take_bit-track.ensures.taken c.loop-rest.invariant
          c.with_bit_if-left.result (c.with_bit_if-left.ensures.put has) (c.has_cost-has.ensures.0 has)
      | inr other ↦ rw (c.with_bit_if-left.ensures.kept other) (left_less c.args.self.now c.args.group.now e c.loop-rest.rest c.take_bit-track.new.bits c.loop-rest.left track c.take_bit-track.ensures.taken c.loop-rest.invariant
          (λ same. false≢true (sym other ∙ c.has_cost-has.ensures.1 same)))
    ]
