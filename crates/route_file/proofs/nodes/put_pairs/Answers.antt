use Rattle.std.proofs.Common.{◌≤◌, List, length, sym, ap, ◌∙◌, arith}
use Rattle.std.proofs.lemmas.List.{drop_all}
use Rattle.route_tree.specs.Paths.{Pair}
use Rattle.route_file.specs.PrintedNodes.{nodes_after}
use Rattle.route_file.proofs.Sending.{lacks_end, lacks_next, lacks_for_good}
use Rattle.route_file.proofs.NodeTexts.{nodes_text, pairs_next}
use Rattle.route_file.proofs.nodes.put_pairs.Goals as goal

pub returns-then-is_broken : goal.returns-then-is_broken
returns-then-is_broken g c =
    let next = pairs_next c.args.device.now c.loop-pair.before c.args.pairs.now c.loop-pair.pair-index (0, 0) c.loop-pair-test.true in
    lacks_for_good (lacks_next c.loop-pair.invariant next c.put_pair.ensures) (sym c.is_broken.ensures ∙ c.if-is_broken.true)

pub loop-pair-preserved : goal.loop-pair-preserved
loop-pair-preserved g c =
    let next = pairs_next c.args.device.now c.loop-pair.before c.args.pairs.now c.loop-pair.pair-index (0, 0) c.loop-pair-test.true in
    lacks_next c.loop-pair.invariant next c.put_pair.ensures

pub returns : goal.returns
returns g c =
    let past : length c.args.pairs.now ≤ c.loop-pair.pair-index = omega (arith, c.loop-pair-test.false) in
    lacks_end c.loop-pair.invariant (ap (λ (ps : List Pair). nodes_text c.args.device.now (nodes_after c.args.device.now c.loop-pair.before ps)) (drop_all c.loop-pair.pair-index c.args.pairs.now past))
