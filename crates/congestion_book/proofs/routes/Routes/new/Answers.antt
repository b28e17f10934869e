use Rattle.std.proofs.Common.{◌≡◌, length, replicate, ap, ◌∙◌, None}
use Rattle.routing_problem.specs.Nodes.{node_count_of}
use Rattle.congestion_book.proofs.Recording.{none_recorded, no_lists_yet}
use Rattle.congestion_book.proofs.routes.Routes.new.Goals as goal
use Rattle.congestion_book.proofs.routes.Routes.new.Goals.{After-nets-2}

none_yet : (c : After-nets-2) → c.in_ok-trees.trees.items ≡ replicate (length c.args.problem.now.nets) None
none_yet c = c.in_ok-trees.ensures ∙ ap (λ n. replicate n None) c.nets.ensures.count

pub returns-clause-lists : goal.returns-clause-lists
returns-clause-lists c = no_lists_yet c.in_ok-trees.trees.items (length c.args.problem.now.nets) (none_yet c)

pub returns-clause-counts : goal.returns-clause-counts
returns-clause-counts c = c.in_ok-usage.ensures.counts ∙ ap (λ f. replicate (node_count_of f) 0) c.device.ensures.device

pub returns-clause-recorded : goal.returns-clause-recorded
returns-clause-recorded c =
    none_recorded c.args.problem.now c.in_ok-trees.trees.items c.in_ok-usage.usage.counts c.in_ok-usage.usage.overused c.nets-2.result c.nets.ensures.limits
    (none_yet c) (c.in_ok-usage.ensures.counts ∙ ap (λ f. replicate (node_count_of f) 0) c.device.ensures.device) c.in_ok-usage.ensures.overused c.nets-2.ensures.count
