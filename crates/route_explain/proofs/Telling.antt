-- The fault that a run ends with, whatever it would have answered.
use Rattle.std.proofs.Common.{◌≡◌, Result, Ok, Err, ap}
use Rattle.run_inputs.specs.declared.fault.AppFault.{AppFault}

abbrev ended : {R : Type 0} → AppFault → Result R AppFault
ended e = Err e

-- the fault of a result, or another one if it has none
abbrev fault_in : {R : Type 0} → AppFault → Result R AppFault → AppFault
fault_in other (Ok x) = other
fault_in other (Err e) = e

pub same_fault : {A B : Type 0} (e f : AppFault) → ended {R = A} e ≡ ended {R = A} f → ended {R = B} e ≡ ended {R = B} f
same_fault e f same = ap ended (ap (fault_in f) same)
