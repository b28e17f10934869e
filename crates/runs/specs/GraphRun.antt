-- What a run of `graph` answers and prints (ours).
use Rattle.std.specs.Prelude.{Bool, Result}
use Rattle.arch_file.specs.Architecture.{Architecture}
use Rattle.rr_graph.specs.Fabric.{Fabric}
use Rattle.run_inputs.specs.declared.fault.AppFault.{AppFault}
use Rattle.runs.specs.Listing.{listing_of}
use Rattle.run_inputs.specs.Runs.{StopsOrGoesOn, PrintsText, TakesNothing, Writing}

-- A run of `graph`, memory aside: if an architecture is read, the listing of its device is printed.
abbrev pub RunsGraph : (is_typed : Bool) → (out : Writing) → (Architecture → Fabric) → Result Architecture AppFault → Result (Unit {0}) AppFault → Type 0
RunsGraph is_typed out fabric = StopsOrGoesOn (TakesNothing out) (λ a result. PrintsText out (listing_of is_typed (fabric a)) tt result)
