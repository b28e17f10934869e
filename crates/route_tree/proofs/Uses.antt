-- What becomes of the use of a node when one net's list changes.
use Rattle.std.proofs.Common.{◌≡◌, ℕ, ◌+◌, ◌-◌, ◌<◌, ◌≤◌, zero, suc, Bool, true, false, if◌then◌else◌, List, [], ◌∷◌, length, get_or, set, replicate, Option, None, refl, sym, ap, arith}
use Rattle.std.proofs.lemmas.List.{set-set}
use Rattle.routing_problem.specs.Nodes.{node_at}
use Rattle.routing_problem.specs.Problems.{Net, RoutingProblem, net_in}
use Rattle.route_tree.specs.Paths.{Pair}
use Rattle.route_tree.specs.Usage.{covers_by, use_by, use_of, use_by_others, room_of, overuse_of}

one_at_most : (b : Bool) → (if b then 1 else 0) ≤ 1
one_at_most true = omega arith
one_at_most false = omega arith

-- ---- bounds
-- a net counts once at most
pub counts_once : (n : Net) (l : Option (List Pair)) (a : ℕ) → use_by n l a ≤ 1
counts_once n l a = one_at_most (covers_by n l a)

-- a node is used by no more nets than there are
pub few_uses : (nets : List Net) (lists : List (Option (List Pair))) (a : ℕ) → use_of nets lists a ≤ length nets
few_uses [] lists a = omega arith
few_uses (n ∷ ns) [] a = omega arith
few_uses (n ∷ ns) (x ∷ xs) a =
    let one = counts_once n x a in
    let rest = few_uses ns xs a in
    omega (arith, one, rest)

-- where no net has a list no node is used
pub unused : (nets : List Net) (count a : ℕ) → use_of nets (replicate count None) a ≡ 0
unused [] count a = refl
unused (n ∷ ns) zero a = refl
unused (n ∷ ns) (suc count) a = let rest = unused ns count a in omega (arith, rest)

-- ---- the list of net i becomes another
pub use_replaced : (nets : List Net) (lists : List (Option (List Pair))) (i : ℕ) (new : Option (List Pair)) (a : ℕ) →
    i < length nets → i < length lists →
    use_of nets (set lists i new) a + use_by (net_in nets i) (get_or lists i None) a ≡ use_of nets lists a + use_by (net_in nets i) new a
use_replaced [] lists i new a l m = absurd (omega arith)
use_replaced (n ∷ ns) [] i new a l m = absurd (omega arith)
use_replaced (n ∷ ns) (x ∷ xs) zero new a l m = omega arith
use_replaced (n ∷ ns) (x ∷ xs) (suc i) new a l m =
    let rest = use_replaced ns xs i new a (omega arith) (omega arith) in
    omega (arith, rest)

module _ (nets : List Net) (lists : List (Option (List Pair))) (i a : ℕ) (net : i < length nets) (entry : i < length lists) where
  pub others_and_own : use_by_others nets lists i a + use_by (net_in nets i) (get_or lists i None) a ≡ use_of nets lists a
  others_and_own = let change = use_replaced nets lists i None a net entry in omega (arith, change)

  -- a net's own use is part of the use
  pub own_within : use_by (net_in nets i) (get_or lists i None) a ≤ use_of nets lists a
  own_within = let both = others_and_own in omega (arith, both)

-- the other nets use a node alike, whatever list net i has
pub others_stay : (nets : List Net) (lists : List (Option (List Pair))) (i : ℕ) (new : Option (List Pair)) (a : ℕ) →
    use_by_others nets (set lists i new) i a ≡ use_by_others nets lists i a
others_stay nets lists i new a = ap (λ ls. use_of nets ls a) (set-set lists i new None)

-- ---- by how much a node is overused, where its uses were counted
pub overuse_counted : (p : RoutingProblem) (lists : List (Option (List Pair))) (a count : ℕ) → count ≡ use_of p.nets lists a →
    overuse_of p lists a ≡ count - room_of p.device (node_at p.device a)
unfolding overuse_of
overuse_counted p lists a count e = ap (λ k. k - room_of p.device (node_at p.device a)) (sym e)

module _ (p : RoutingProblem) (lists : List (Option (List Pair))) (i a : ℕ) (net : i < length p.nets) (entry : i < length lists) where
  abbrev own : ℕ
  own = use_by (net_in p.nets i) (get_or lists i None) a

  abbrev room : ℕ
  room = room_of p.device (node_at p.device a)
