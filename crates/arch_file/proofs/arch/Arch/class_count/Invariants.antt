use Rattle.std.proofs.Common.{◌≡◌, ◌+◌, take, fold, max}
use Rattle.arch_file.proofs.arch.Arch.class_count.Given as goal

-- the count so far is that of the pins so far, all of whose classes are within their limit
abbrev pub invariant-loop-pin : goal.invariant-loop-pin
invariant-loop-pin l = l.count ≡ fold (λ n p. max n (p.class + 1)) 0 (take l.pin-index l.pin-items)
