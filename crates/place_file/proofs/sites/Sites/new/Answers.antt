use Rattle.std.proofs.Common.{◌≡◌, false, replicate, sym, subst}
use Rattle.std.specs.List.{range_with_len}
use Rattle.place_file.specs.kept.OccupiedSites.{IsTable, table_size}
use Rattle.place_file.proofs.Placing.{none_taken}
use Rattle.place_file.proofs.sites.Sites.new.Goals as goal

pub invariant_of-result : goal.invariant_of-result
invariant_of-result c =
    let fresh : c.in_ok-taken.taken.items ≡ replicate (table_size c.args.array) false = rw (sym c.table_size.ensures) (c.in_ok-taken.ensures.items_if_clones_equal (λ y e. e)) in
    (c.requires, subst (λ sites. IsTable c.args.array sites c.in_ok-taken.taken.items) (sym c.in_ok-blocks.ensures) (none_taken c.args.array (range_with_len 0 c.args.count) c.in_ok-taken.taken.items fresh))
