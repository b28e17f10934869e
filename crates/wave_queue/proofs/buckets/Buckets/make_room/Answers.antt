use Rattle.std.proofs.Common.{arith}
use Rattle.wave_queue.proofs.Marked.{used_same}
use Rattle.wave_queue.proofs.buckets.Buckets.make_room.Goals as goal

pub invariant_of-self : goal.invariant_of-self
invariant_of-self g c =
    used_same c.self.inside.rows.items c.add_buckets.new.buckets.items c.self.inside.used.items c.add_buckets.ensures.same
    (let few = c.self.invariant.few in omega (arith, few, c.add_buckets.ensures.few, c.requires)) c.self.invariant
