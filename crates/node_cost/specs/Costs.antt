-- What it costs to enter a node (McMurchie and Ebeling 1995; Betz, Rose and Marquardt 1999).
use Rattle.std.specs.Prelude.{ℕ, ◌+◌, ◌-◌, ◌*◌}
use Rattle.node_cost.specs.declared.entry_cost.TheConstants.{UNIT_FACTOR}

-- the number that means a factor of 1: factors are in sixteenths
abbrev pub unit_factor : ℕ
unit_factor = UNIT_FACTOR

-- The base cost and the history, times a factor that grows with each net beyond the capacity: those
-- that use the node already, and this one. (`-` stops at 0: below the capacity the factor is 1.)
abbrev pub cost_of : (base history capacity others present : ℕ) → ℕ
cost_of base history capacity others present = (base + history) * (unit_factor + present * (others + 1 - capacity))
