-- Why workers stop, and which fault of an iteration is returned.
use Rattle.std.specs.Prelude.{List, [], ◌∷◌, Option, Some, None, Result, Ok, Err}
use Rattle.net_workers.specs.declared.fault.WorkFault.{WorkFault}
use Rattle.net_workers.specs.declared.fault.WorkFault.TheVariants as work
use Rattle.net_workers.specs.declared.fault.TurnFault.{TurnFault}
use Rattle.net_workers.specs.declared.fault.TurnFault.TheVariants.{Memory, Astray}

-- the fault of an iteration whose worker stops with this one
abbrev pub work_fault : TurnFault → WorkFault
work_fault Memory = work.Memory
work_fault Astray = work.Astray

-- the first of two faults
abbrev pub lesser : TurnFault → TurnFault → TurnFault
lesser Memory b = Memory
lesser Astray b = b

-- the first of a fault and those that were met before
abbrev pub first_of : Option TurnFault → TurnFault → TurnFault
first_of None b = b
first_of (Some a) b = lesser a b

-- the first of the faults among the results and those that were met before, if there are any
abbrev pub first_met : {A : Type 0} → Option TurnFault → List (Result A TurnFault) → Option TurnFault
first_met met [] = met
first_met met (Ok done ∷ results) = first_met met results
first_met met (Err fault ∷ results) = first_met (Some (first_of met fault)) results
