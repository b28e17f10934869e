use Rattle.std.proofs.Common.{◌≡◌, length, refl, subst, ap, ◌∙◌, arith}
use Rattle.routing_problem.specs.Nodes.{node_count_of}
use Rattle.route_report.specs.kept.Counting.{AreUses}
use Rattle.route_report.proofs.Counting.{all_used, written_back}
use Rattle.route_report.proofs.uses.node_uses.Goals as goal

pub returns : goal.returns
returns c =
    let p = c.args.problem.now in
    let lists = c.args.routing.now in
    let counted = subst (λ ls. AreUses p ls (length p.nets) c.count_nets.new.counts) (c.deref.ensures.value ∙ c.routing.view_is) c.in_ok-count_nets.ensures in
    let size : length c.count_nets.new.counts ≡ node_count_of p.device = counted.size in
    let nodes = ap node_count_of c.device.ensures.device in
    let made : c.in_ok-counts.counts.len ≡ length c.count_nets.new.counts = omega (arith, size, nodes, c.in_ok-counts.ensures.len, c.node_count.ensures.count) in
    written_back c.count_nets.new.counts _ c.in_ok-counts.counts.len made ∙ all_used p lists c.count_nets.new.counts (length p.nets) refl counted
