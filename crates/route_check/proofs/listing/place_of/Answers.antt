use Rattle.std.proofs.Common.{rules, arith}
use Rattle.std.specs.Prelude.{nat_lt}
use Rattle.std.proofs.lemmas.Bool.{ltb-true, ltb-false}
use Rattle.std.proofs.lemmas.List.Sorted.{IsPartitionPoint-from_clause, IsPartitionedBy-ltb}
use Rattle.route_check.specs.declared.listing.End.{End}
use Rattle.route_check.specs.kept.Ends.{no_end}
use Rattle.route_check.proofs.listing.place_of.Goals as goal

pub returns : goal.returns
returns c =
    let ends = c.args.ends.now in
    let a = c.args.node in
    let point = IsPartitionPoint-from_clause (λ (e : End). nat_lt e.node a) ends c.partition_point.result c.partition_point.ensures.partitioned
    (IsPartitionedBy-ltb (λ (e : End). e.node) ends a c.requires) (λ b r f' k. search rules) in
    record {
      before = λ k l. ltb-true _ a (point.0 k no_end (omega arith) l);
      behind = λ k low high. ltb-false _ a (point.1 k no_end low high);
    }
