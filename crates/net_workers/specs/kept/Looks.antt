-- How often a worker may look again.
use Rattle.std.specs.Prelude.{ℕ, ◌==◌, ◌||◌, if◌then◌else◌}

-- the greatest number of times that a worker may look again at a net that it holds
abbrev pub greatest_looks : ℕ
greatest_looks = 4

-- how many times one of this many workers may look again at a net, in iteration k: not in the
-- first, and not if it is alone
abbrev pub most_looks : (k workers : ℕ) → ℕ
most_looks k workers = if (k == 1) || (workers == 1) then 0 else greatest_looks
