-- The channels of a device along its two axes: above each row, from 0 on, and right of each column,
-- from 0 on (VPR and T-VPack manual 4.30; Betz, Rose and Marquardt 1999, "routing-resource graph").
use Rattle.std.specs.Prelude.{ℕ}
use Rattle.channel_tables.specs.declared.axis.Axis.{Axis}
use Rattle.channel_tables.specs.declared.axis.Axis.TheVariants.{Row, Column}
use Rattle.channel_tables.specs.Fabric.{Fabric}

-- how many places a channel has: above a row one in each column, right of a column one in each row
abbrev pub places_along : Axis → Fabric → ℕ
places_along Row f = f.nx
places_along Column f = f.ny

-- the axis of the channels that cross it: one after each place, and one before the first
abbrev pub across : Axis → Axis
across Row = Column
across Column = Row
