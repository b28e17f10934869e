use Rattle.std.proofs.Common.{◌≡◌, map, take}
use Rattle.net_file.specs.Blocks.{block_at}
use Rattle.net_file.proofs.blocks.blocks_at.Given as goal

-- the blocks whose pinlists are at the first places
abbrev pub invariant-loop-place : goal.invariant-loop-place
invariant-loop-place l = l.blocks.items ≡ map (block_at l.nets l.lines) (take l.place-index l.places)
