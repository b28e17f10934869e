-- The parts of a device, as contracts see it.
use Rattle.channel_tables.specs.Fabric.{Fabric}
use Rattle.channel_tables.specs.declared.layout.Layout.TheInside as layout

abbrev pub fabric_of : layout.Inside → Fabric
fabric_of l = record { architecture = l.arch; nx = l.nx; ny = l.ny; width = l.width; mode = l.mode }
