use Rattle.std.proofs.Common.{◌≡◌, length, flat_map}
use Rattle.net_file.specs.Blocks.{numbers_below}
use Rattle.net_file.specs.Connections.{connections_at}
use Rattle.net_file.specs.kept.Rows.{IsFiled}
use Rattle.net_file.proofs.rows.by_net.Given as goal

-- the rows have the connections of the blocks below b
abbrev pub invariant-loop-b : goal.invariant-loop-b
invariant-loop-b l = (length l.rows.items ≡ l.count) × IsFiled (flat_map (connections_at l.pins l.numbers l.blocks) (numbers_below l.b)) l.rows.items
