use Rattle.std.proofs.Common.{◌≡◌, None, fold}
use Rattle.std.specs.Option.{option_or}
use Rattle.net_file.specs.Blocks.{numbers_below}
use Rattle.net_file.specs.WholeFile.{fault_at}
use Rattle.net_file.proofs.whole_file.whole_fault.Given as goal

-- the fault of the least faulty net below n
abbrev pub invariant-loop-n : goal.invariant-loop-n
invariant-loop-n l = l.found ≡ fold (λ found n. option_or found (fault_at l.nets l.globals l.rows n)) None (numbers_below l.n)
