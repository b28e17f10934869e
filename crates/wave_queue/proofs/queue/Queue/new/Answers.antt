use Rattle.std.proofs.Common.{[], refl}
use Rattle.wave_queue.proofs.Bucketed.{bucketed_none, entries_none}
use Rattle.wave_queue.proofs.queue.Queue.new.Goals as goal

pub invariant_of-result : goal.invariant_of-result
invariant_of-result g c = rw c.in_ok-buckets.ensures (bucketed_none g.K.Key.value [] 8193 (λ _. refl))

pub returns : goal.returns
returns g c = rw c.in_ok-buckets.ensures (entries_none g.K.Key.value [] (λ _. refl))
