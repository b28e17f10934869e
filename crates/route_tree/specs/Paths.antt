-- Ways along the pairs of a routing (McMurchie and Ebeling 1995, "a routing tree").
use Rattle.std.specs.Prelude.{ℕ, List, map, Contains}

-- a switch that is closed: from one node to another
abbrev pub Pair : Type 0
Pair = ℕ × ℕ

-- where the pairs end, in their order
abbrev pub ends_of : List Pair → List ℕ
ends_of pairs = map (λ p. p.1) pairs

-- a way along pairs: from a node to itself, or by a pair that leaves it and a way on
pub data Path (pairs : List Pair) : ℕ → ℕ → Type 0 where
  here : (a : ℕ) → Path pairs a a
  along : (a b c : ℕ) → Contains pairs (a, b) → Path pairs b c → Path pairs a c
