use Rattle.std.proofs.Common.{subst, ◌∙◌}
use Rattle.route_tree.specs.kept.Counting.{Counts}
use Rattle.route_report.proofs.Counting.{uses_more}
use Rattle.route_report.proofs.uses.count_net.Goals as goal

pub returns : goal.returns
returns c =
    uses_more c.args.problem.now c.args.lists.now c.args.net c.requires.there c.args.counts.now c.requires.so_far c.count_each.new.counts
    (subst (λ nodes. Counts c.args.counts.now nodes c.count_each.new.counts) (c.deref.ensures.value ∙ c.in_ok-nodes.ensures) c.count_each.ensures)
