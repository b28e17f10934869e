-- What a wave over groups is: labels of nodes, entries that wait, the cost at or above which ways
-- may have been left out, the least cost of a way that was found to a sink, boxes around the sinks
-- that it has yet to take, and what is known of how many wires lead on from a group.
use Rattle.std.specs.Prelude.{ℕ, List, Option}
use Rattle.wave_ground.specs.kept.Boxes.{SinkBox}
use Rattle.wave_queue.specs.kept.Queues.{Waiting}

-- the cost of a node that the wave has not reached: more than any way costs
abbrev pub FAR : ℕ
FAR = 340282366920938463463374607431768211455

-- the cost of a way to a node, the node before it, and what it costs to enter the node; at a start
-- the cost is 0, the node is its own predecessor, and the price doesn't count
pub record NodeLabel : Type 0 where
  pub cost : ℕ
  pub parent : ℕ
  pub price : ℕ

pub record Wave : Type 0 where
  pub labels : List NodeLabel
  pub queue : List Waiting
  pub limit : ℕ
  pub best : ℕ
  pub boxes : List SinkBox
  pub known : List (Option ℕ)
