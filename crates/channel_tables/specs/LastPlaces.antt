-- Where a wire ends.
use Rattle.std.specs.Prelude.{ℕ}
use Rattle.channel_tables.specs.declared.node.Kind.{Kind}
use Rattle.channel_tables.specs.declared.node.Kind.TheVariants.{Source, Sink, Opin, Ipin, Chanx, Chany}
use Rattle.channel_tables.specs.declared.node.Node.{Node}
use Rattle.channel_tables.specs.Fabric.{Fabric}
use Rattle.channel_tables.specs.Wires.{last_of}

-- the last place of a node along its channel, or its x if it is no wire
abbrev pub last_by : Kind → Fabric → Node → ℕ
last_by Source f n = n.x
last_by Sink f n = n.x
last_by Opin f n = n.x
last_by Ipin f n = n.x
last_by Chanx f n = last_of f f.nx n.number n.x
last_by Chany f n = last_of f f.ny n.number n.y
