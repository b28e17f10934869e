-- How many nets use each node by what is counted, and how many nodes are overused.
use Rattle.std.specs.Prelude.{◌≡◌, ℕ, ◌+◌, ◌-◌, ◌≤◌, ◌==◌, Bool, cond, nat_lt, List, [], ◌∷◌, length, map, get_or, count_by}
use Rattle.std.specs.List.{filter, sum_by}
use Rattle.routing_problem.specs.Fabric.{Fabric, numbers_below}
use Rattle.routing_problem.specs.Nodes.{node_at}
use Rattle.route_tree.specs.Usage.{room_of}

-- more nets use the node than it has room for
abbrev pub is_over : Fabric → (counts : List ℕ) → ℕ → Bool
is_over f counts a = nat_lt (room_of f (node_at f a)) (get_or counts a 0)

-- how many nodes are overused
unfoldable pub overused_by : Fabric → (counts : List ℕ) → ℕ
overused_by f counts = count_by (is_over f counts) (numbers_below (length counts))

-- the overuse of a node: by how many nets more than it has room for it is used
abbrev pub excess_of : Fabric → (counts : List ℕ) → ℕ → ℕ
excess_of f counts a = get_or counts a 0 - room_of f (node_at f a)

-- the overuse of all nodes together: by how many nets more than they have room for they are used
unfoldable pub excess_by : Fabric → (counts : List ℕ) → ℕ
excess_by f counts = sum_by (excess_of f counts) (numbers_below (length counts))

-- the overused nodes, ascending, each with its overuse
unfoldable pub row_by : Fabric → (counts : List ℕ) → List (ℕ × ℕ)
row_by f counts = filter (λ e. nat_lt 0 e.1) (map (λ a. (a, excess_of f counts a)) (numbers_below (length counts)))

-- a node with its overuse, or nothing if there is none
abbrev pub entry_of : ℕ × ℕ → List (ℕ × ℕ)
entry_of e = cond (nat_lt 0 e.1) (e ∷ []) []

-- how often a node is among these
abbrev pub times_in : List ℕ → ℕ → ℕ
times_in nodes a = count_by (λ b. b == a) nodes

-- one more net uses each of these nodes
pub record AddsEach (old nodes new : List ℕ) : Type 0 where
  pub size : length new ≡ length old
  pub each : (a : ℕ) → get_or new a 0 ≡ get_or old a 0 + times_in nodes a

-- one fewer net uses each of these nodes
pub record TakesEach (old nodes new : List ℕ) : Type 0 where
  pub size : length new ≡ length old
  pub each : (a : ℕ) → get_or new a 0 + times_in nodes a ≡ get_or old a 0

-- one net uses the nodes after in place of those before
pub record ReplacesEach (old before after new : List ℕ) : Type 0 where
  pub size : length new ≡ length old
  pub each : (a : ℕ) → get_or new a 0 + times_in before a ≡ get_or old a 0 + times_in after a

-- one net can use the nodes after in place of those before: a count is 65,535 at most
abbrev pub HasRoomInPlace : (counts before after : List ℕ) → Type 0
HasRoomInPlace counts before after = (a : ℕ) → get_or counts a 0 + times_in after a ≤ 65535 + times_in before a
