use Rattle.std.proofs.Common.{◌≡◌, All, length}
use Rattle.wave_ground.proofs.nearest.nothing_known.Given as goal

abbrev pub invariant-loop : goal.invariant-loop
invariant-loop l = (length l.known.items ≡ l.counter) × All (λ k. k.stamp ≡ 0) l.known.items
