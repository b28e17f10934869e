use Rattle.wave_queue.proofs.Bucketed.{all_emptied, bucketed_none, entries_none}
use Rattle.wave_queue.proofs.queue.Queue.clear.Goals as goal

pub invariant_of-self : goal.invariant_of-self
invariant_of-self g c =
    let now = c.clear.new.self in
    bucketed_none g.K.Key.value now 8193 (all_emptied g.K.Key.value c.self.inside.buckets now c.self.inside.low c.self.inside.end c.self.invariant.placed c.clear.ensures.empty c.clear.ensures.kept)

pub returns : goal.returns
returns g c =
    let now = c.clear.new.self in
    entries_none g.K.Key.value now (all_emptied g.K.Key.value c.self.inside.buckets now c.self.inside.low c.self.inside.end c.self.invariant.placed c.clear.ensures.empty c.clear.ensures.kept)
