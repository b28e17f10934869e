use Rattle.std.proofs.Common.{◌≡◌, ◌+◌, ◌≤◌, ◌++◌, length, drop, vec_len, vec_capacity}
use Rattle.route_tree.specs.Rows.{chain}
use Rattle.route_tree.proofs.tree.push_chain.Given as goal

abbrev pub invariant-loop-node : goal.invariant-loop-node
invariant-loop-node l =
    (l.rows.items ++ chain (length l.rows.items) l.parent (drop l.node-index l.nodes) ≡ l.initial.rows.items ++ chain (length l.initial.rows.items) l.row l.nodes)
    × (vec_len l.rows + length (drop l.node-index l.nodes) ≤ vec_capacity l.rows)
