-- Texts that are not empty.
use Rattle.std.proofs.Common.{◌<◌, Bool, length, Option, Some, None, arith, length-append}
use Rattle.net_file.specs.Netlist.{Netlist}
use Rattle.rr_graph.specs.Fabric.{Fabric}
use Rattle.rr_graph.specs.Problems.{RoutingProblem}
use Rattle.route_check.specs.declared.fault.RouteFault.{RouteFault}
use Rattle.route_check.specs.declared.fault.RouteFault.TheVariants.{Length, Unrouted, Tree, Overused}
use Rattle.runs.specs.Listing.{listing_of}
use Rattle.runs.specs.Texts.{counts_line}
use Rattle.runs.specs.Verdict.{net_fault_text, overuse_text, verdict_text}

-- a listing isn't empty
pub listing_filled : (is_typed : Bool) (f : Fabric) → 0 < length (listing_of is_typed f)
unfolding listing_of counts_line
listing_filled is_typed f = simp length-append (omega arith)

-- a verdict's line isn't empty
pub verdict_filled : (netlist : Netlist) (p : RoutingProblem) (verdict : Option RouteFault) → 0 < length (verdict_text netlist p verdict)
unfolding net_fault_text overuse_text
verdict_filled netlist p None = omega arith
verdict_filled netlist p (Some Length) = omega arith
verdict_filled netlist p (Some (Unrouted net)) = simp length-append (omega arith)
verdict_filled netlist p (Some (Tree net fault)) = simp length-append (omega arith)
verdict_filled netlist p (Some (Overused node by)) = simp length-append (omega arith)
