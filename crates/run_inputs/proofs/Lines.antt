-- Texts with a part for each number.
use Rattle.std.proofs.Common.{◌≡◌, ℕ, ◌+◌, List, [], ◌++◌, sym, ap, ◌∙◌}
use Rattle.std.specs.List.{flat_map}
use Rattle.std.proofs.lemmas.List.{flat_map_more}
use Rattle.rr_graph.specs.Fabric.{numbers_below}
use Rattle.rr_graph.proofs.Ranges.{below_next}

-- the lines of one more number
pub lines_more : (line : ℕ → List ℕ) (n : ℕ) → flat_map line (numbers_below n) ++ line n ≡ flat_map line (numbers_below (n + 1))
lines_more line n = flat_map_more line [] (numbers_below n) n ∙ ap (flat_map line) (sym (below_next n))
