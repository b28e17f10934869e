-- What a net sees of the others when it is routed: for each node how many other nets use it, and
-- its history.
use Rattle.std.specs.Prelude.{ℕ, List, get_or}

-- how many other nets use the node, and its history
abbrev pub NodeView : Type 0
NodeView = ℕ × ℕ

-- what a net sees of all nodes
abbrev pub NetView : Type 0
NetView = List NodeView

abbrev pub others_in : NetView → ℕ → ℕ
others_in view a = (get_or view a (0, 0)).0

abbrev pub history_in : NetView → ℕ → ℕ
history_in view a = (get_or view a (0, 0)).1
