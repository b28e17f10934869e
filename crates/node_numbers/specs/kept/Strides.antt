-- What the divisors hold that find a device's nodes by their numbers.
use Rattle.std.specs.Prelude.{◌≡◌, ℕ, ◌+◌, max, length, map}
use Rattle.node_numbers.specs.declared.strides.Strides.{Strides}
use Rattle.channel_tables.specs.Fabric.{Fabric, numbers_below}
use Rattle.channel_tables.specs.Channels.{starting_at, wires_before}

-- how many wires begin at a place of a channel above a row, 1 at least
abbrev pub stride_at : Fabric → (place : ℕ) → ℕ
stride_at f place = max (length (starting_at f f.nx place)) 1

-- how many wires a channel right of a column has, 1 at least
abbrev pub column_stride : Fabric → ℕ
column_stride f = max (wires_before f f.ny (f.ny + 1)) 1

pub record AreStrides (f : Fabric) (s : Strides) : Type 0 where
  pub rows : s.rows ≡ f.ny + 1
  pub column : s.column ≡ column_stride f
  pub places : s.places.items ≡ map (stride_at f) (numbers_below (f.nx + 1))
