use Rattle.std.proofs.Common.{◌≡◌, length}
use Rattle.group_wave.proofs.labels.blank_prices.Given as goal

abbrev pub invariant-loop : goal.invariant-loop
invariant-loop g l = length l.prices.items ≡ l.counter
