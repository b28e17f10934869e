-- The name of a schedule's fault, and whether memory ran out (ours).
use Rattle.std.specs.Prelude.{Bool, true, false, List, ℕ, codes}
use Rattle.run_schedule.specs.declared.fault.FaultKind.{FaultKind}
use Rattle.run_schedule.specs.declared.fault.FaultKind.TheVariants as fault

abbrev pub kind_name : FaultKind → List ℕ
kind_name fault.NotSchedule = codes "NotSchedule"
kind_name fault.BadHead = codes "BadHead"
kind_name fault.BadTurn = codes "BadTurn"
kind_name fault.UnknownNet = codes "UnknownNet"
kind_name fault.TurnedTwice = codes "TurnedTwice"
kind_name fault.UnknownWorker = codes "UnknownWorker"
kind_name fault.BadSeen = codes "BadSeen"
kind_name fault.Unturned = codes "Unturned"
kind_name fault.BadIteration = codes "BadIteration"
kind_name fault.BadWidth = codes "BadWidth"
kind_name fault.BadEnd = codes "BadEnd"
kind_name fault.Memory = codes "Memory"
kind_name fault.OtherProgram = codes "OtherProgram"
kind_name fault.OtherRun = codes "OtherRun"
kind_name fault.OtherNet = codes "OtherNet"
kind_name fault.OtherArch = codes "OtherArch"
kind_name fault.OtherPlace = codes "OtherPlace"
kind_name fault.OtherWorkers = codes "OtherWorkers"
kind_name fault.OtherOptions = codes "OtherOptions"
kind_name fault.OtherNets = codes "OtherNets"
kind_name fault.OtherWidth = codes "OtherWidth"
kind_name fault.MoreTrials = codes "MoreTrials"
kind_name fault.MoreIterations = codes "MoreIterations"

abbrev pub is_memory : FaultKind → Bool
is_memory fault.Memory = true
is_memory _ = false
