use Rattle.std.proofs.Common.{rules, subst}
use Rattle.std.specs.List.Sorted.{IsPermutation}
use Rattle.std.proofs.lemmas.List.Sorted.{IsNonDecreasingBy-from_sort_by_key}
use Rattle.route_check.specs.declared.listing.End.{End}
use Rattle.route_check.proofs.listing.sorted_ends.Goals as goal

pub returns : goal.returns
returns c =
    record {
      all = subst (λ xs. IsPermutation xs c.sort_unstable_by_key.new.self.items) c.in_ok-ends.ensures c.sort_unstable_by_key.ensures.permutation;
      ascend = IsNonDecreasingBy-from_sort_by_key (λ (e : End). e.node) c.sort_unstable_by_key.new.self.items c.sort_unstable_by_key.ensures.sorted
          (λ a r q k. search rules);
    }
