use Rattle.std.proofs.Common.{drop}
use Rattle.route_file.specs.PrintedNodes.{nodes_after, printed_nodes}
use Rattle.route_file.proofs.Sending.{Lacks}
use Rattle.route_file.proofs.NodeTexts.{nodes_text}
use Rattle.route_file.proofs.nodes.put_pairs.Given as goal

-- what is lacking are the lines of the pairs to come
abbrev pub invariant-loop-pair : goal.invariant-loop-pair
invariant-loop-pair g l =
    let sink = g.W.ByteSink in
    Lacks sink l.initial.out l.out
    (nodes_text l.device (nodes_after l.device l.before (drop l.pair-index l.pairs))) (nodes_text l.device (printed_nodes l.device l.pairs))
