-- What the counts and lists of a device's nodes hold.
use Rattle.std.specs.Prelude.{◌≡◌}
use Rattle.node_numbers.specs.declared.block.BlockNumbers.{BlockNumbers}
use Rattle.node_numbers.specs.declared.starts.Starts.{Starts}
use Rattle.node_numbers.specs.declared.strides.Strides.{Strides}
use Rattle.channel_tables.specs.declared.node.Kind.TheVariants.{Source, Sink, Opin, Ipin, Chanx, Chany}
use Rattle.channel_tables.specs.Fabric.{Fabric, IsFabric}
use Rattle.node_numbers.specs.Nodes.{node_count_of}
use Rattle.node_numbers.specs.Starts.{kind_start}
use Rattle.node_numbers.specs.Numbering.{block_numbers}
use Rattle.node_numbers.specs.kept.Strides.{AreStrides}

-- the numbers of a block's nodes, on a device that has limits to keep
pub record IsBlock (f : Fabric) (b : BlockNumbers) : Type 0 where
  pub limits : IsFabric f
  pub sources : b.sources.items ≡ block_numbers f Source
  pub sinks : b.sinks.items ≡ block_numbers f Sink
  pub opins : b.opins.items ≡ block_numbers f Opin
  pub ipins : b.ipins.items ≡ block_numbers f Ipin

-- how many nodes come before those of each kind
pub record IsStarts (f : Fabric) (s : Starts) : Type 0 where
  pub sink : s.sink ≡ kind_start f Sink
  pub opin : s.opin ≡ kind_start f Opin
  pub ipin : s.ipin ≡ kind_start f Ipin
  pub chanx : s.chanx ≡ kind_start f Chanx
  pub chany : s.chany ≡ kind_start f Chany
  pub end : s.end ≡ node_count_of f

-- the tables of a device's numbers
pub record IsTabled (f : Fabric) (b : BlockNumbers) (s : Starts) (d : Strides) : Type 0 where
  pub block : IsBlock f b
  pub starts : IsStarts f s
  pub strides : AreStrides f d
