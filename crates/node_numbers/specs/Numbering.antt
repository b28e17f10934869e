-- The terminals and pins of a block.
use Rattle.std.specs.Prelude.{ℕ, Bool, true, false, List, []}
use Rattle.arch_file.specs.declared.entries.Direction.TheVariants.{Input, Output}
use Rattle.channel_tables.specs.declared.node.Kind.{Kind}
use Rattle.channel_tables.specs.declared.node.Kind.TheVariants.{Source, Sink, Opin, Ipin, Chanx, Chany}
use Rattle.channel_tables.specs.Fabric.{Fabric}
use Rattle.channel_tables.specs.Pins.{classes_of, pins_of}

abbrev pub is_terminal : Kind → Bool
is_terminal Source = true
is_terminal Sink = true
is_terminal Opin = true
is_terminal Ipin = true
is_terminal Chanx = false
is_terminal Chany = false

-- the numbers of a kind of terminals or pins at a block
unfoldable pub block_numbers : Fabric → Kind → List ℕ
block_numbers f Source = classes_of f.architecture Output
block_numbers f Sink = classes_of f.architecture Input
block_numbers f Opin = pins_of f.architecture Output
block_numbers f Ipin = pins_of f.architecture Input
block_numbers f Chanx = []
block_numbers f Chany = []
