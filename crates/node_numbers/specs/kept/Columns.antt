-- How many nodes of a kind of terminals or pins come before a place, by arithmetic, where a block
-- has so many of them.
use Rattle.std.specs.Prelude.{ℕ, ◌+◌, ◌-◌, ◌*◌, ◌==◌, if◌then◌else◌}
use Rattle.channel_tables.specs.Fabric.{Fabric, is_between}

-- in a column
unfoldable pub column_length : Fabric → (count x : ℕ) → ℕ
column_length f count x = if is_between 1 f.nx x then 2 * f.architecture.io_rat + f.ny * count else f.ny * f.architecture.io_rat

-- in the columns before x
unfoldable pub columns_length : Fabric → (count x : ℕ) → ℕ
columns_length f count x = if x == 0 then 0 else f.ny * f.architecture.io_rat + (x - 1) * (2 * f.architecture.io_rat + f.ny * count)

-- in the rows before y of a column of blocks
abbrev pub inner_rows_length : Fabric → (count y : ℕ) → ℕ
inner_rows_length f count y = if y == 0 then 0 else f.architecture.io_rat + (y - 1) * count

-- in the rows before y of column x
unfoldable pub rows_length : Fabric → (count x y : ℕ) → ℕ
rows_length f count x y = if is_between 1 f.nx x then inner_rows_length f count y else (y - 1) * f.architecture.io_rat

-- at a place of a column of blocks
abbrev pub inner_place_length : Fabric → (count y : ℕ) → ℕ
inner_place_length f count y = if is_between 1 f.ny y then count else f.architecture.io_rat

-- in the device
unfoldable pub terminals_length : Fabric → (count : ℕ) → ℕ
terminals_length f count = 2 * (f.ny * f.architecture.io_rat) + f.nx * (2 * f.architecture.io_rat + f.ny * count)
