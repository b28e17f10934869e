use Rattle.std.proofs.Common.{[], sym, subst}
use Rattle.wave_queue.specs.kept.Marks.{AreUsed}
use Rattle.wave_queue.proofs.Marked.{used_none}
use Rattle.wave_queue.proofs.buckets.Buckets.new.Goals as goal

pub invariant_of-result : goal.invariant_of-result
invariant_of-result g c = rw c.new.ensures.items (subst (AreUsed []) (sym (c.in_ok-used.ensures.items_if_clones_equal (λ y e. e))) used_none)
