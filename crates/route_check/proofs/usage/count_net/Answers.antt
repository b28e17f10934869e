use Rattle.std.proofs.Common.{◌∷◌, sym, ap₂, subst, ◌∙◌, arith}
use Rattle.route_tree.specs.Paths.{ends_of}
use Rattle.route_tree.specs.kept.Counting.{Counts}
use Rattle.route_check.specs.kept.Counted.{HasRoom}
use Rattle.route_check.proofs.Counting.{list_read, routed_by, room_for, uses_more}
use Rattle.route_check.proofs.usage.count_net.Goals as goal

pub count_list-requires : goal.count_list-requires
count_list-requires c =
    let p = c.args.problem.now in
    let lists = c.args.lists.now in
    let net = c.args.net in
    let pairs = c.in-Some.pairs in
    let there = list_read lists net c.index-lists-net.result pairs (omega (arith, c.requires.there, c.requires.one_each)) c.index-lists-net.is c.in-Some.is in
    let route = routed_by p lists net pairs c.requires.routed there in
    record {
      room = subst (HasRoom c.args.counts.now) (sym (ap₂ (λ s ps. s ∷ ends_of ps) c.source.ensures.source (c.deref.ensures.value ∙ c.pairs.view_is)))
          (room_for p c.requires.limits lists net c.requires.there c.args.counts.now c.requires.so_far pairs route);
    }

pub returns-in-Some : goal.returns-in-Some
returns-in-Some c =
    let p = c.args.problem.now in
    let lists = c.args.lists.now in
    let net = c.args.net in
    let pairs = c.in-Some.pairs in
    let there = list_read lists net c.index-lists-net.result pairs (omega (arith, c.requires.there, c.requires.one_each)) c.index-lists-net.is c.in-Some.is in
    let route = routed_by p lists net pairs c.requires.routed there in
    uses_more p c.requires.limits lists net c.requires.there c.args.counts.now c.requires.so_far pairs route
    (omega (arith, c.requires.there, c.requires.one_each)) there c.count_list.new.counts
    (subst (λ nodes. Counts c.args.counts.now nodes c.count_list.new.counts) (ap₂ (λ s ps. s ∷ ends_of ps) c.source.ensures.source
    (c.deref.ensures.value ∙ c.pairs.view_is)) c.count_list.ensures)
