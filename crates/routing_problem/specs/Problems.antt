-- Routing problems: what the nets of a placed design join on a device (Betz, Rose and Marquardt
-- 1999; the numbers of nets are those of the netlist, VPR and T-VPack manual 4.30).
use Rattle.std.specs.Prelude.{◌≡◌, ℕ, ◌+◌, ◌-◌, ◌≤◌, Bool, true, not, ◌&&◌, nat_le, nat_lt, if◌then◌else◌, List, [], ◌∷◌, length, map, get_or, slice_index, Option, Some, None, Result, Ok, Err, All}
use Rattle.std.specs.List.{list_all}
use Rattle.std.specs.List.Sorted.{IsStrictlyIncreasing}
use Rattle.routing_problem.specs.declared.parts_fault.PartsFault.{PartsFault}
use Rattle.routing_problem.specs.declared.parts_fault.PartsFault.TheVariants.{TooMany, NotAscending, BadSource, BadSinks}
use Rattle.channel_tables.specs.Fabric.{Fabric, numbers_below}
pub use Rattle.node_numbers.specs.Nodes.{is_source_kind, is_sink_kind, any_node}
unfoldable pub use Rattle.node_numbers.specs.Nodes.{is_source, is_sink}

-- a routed net: its number in the netlist, and the nodes that it joins
pub record Net : Type 0 where
  pub number : ℕ
  pub source : ℕ
  pub sinks : List ℕ

pub record RoutingProblem : Type 0 where
  pub device : Fabric
  -- the routed nets, by number
  pub nets : List Net

-- the number at k + 1 is above the number at k
abbrev pub rises_at : List ℕ → ℕ → Bool
rises_at xs k = nat_lt (slice_index xs k) (slice_index xs (k + 1))

-- each number is above the one before
unfoldable pub ascends : List ℕ → Bool
ascends xs = list_all (rises_at xs) (numbers_below (length xs - 1))

abbrev pub no_net : Net
no_net = record { number = 0; source = 0; sinks = [] }

-- net i; where there is none, a net that joins nothing
abbrev pub net_in : List Net → ℕ → Net
net_in nets i = get_or nets i no_net

-- the number of net i is not above that of the net before
abbrev pub is_out_of_order : List Net → ℕ → Bool
is_out_of_order nets i = nat_lt 0 i && nat_le (net_in nets i).number (net_in nets (i - 1)).number

-- one or more sinks of the device, ascending
abbrev pub are_sinks : Fabric → List ℕ → Bool
are_sinks f sinks = nat_lt 0 (length sinks) && list_all (is_sink f) sinks && ascends sinks

-- the first fault of net i
unfoldable pub net_fault : Fabric → List Net → ℕ → Option PartsFault
net_fault f nets i =
    if is_out_of_order nets i then Some (NotAscending i)
    else (if not (is_source f (net_in nets i).source) then Some (BadSource i)
    else (if not (are_sinks f (net_in nets i).sinks) then Some (BadSinks i) else None))

abbrev pub or_later : {A : Type 0} → Option A → Option A → Option A
or_later (Some e) later = Some e
or_later None later = later

-- the first answer that there is
abbrev pub first_some : {A : Type 0} → (ℕ → Option A) → List ℕ → Option A
first_some g [] = None
first_some g (x ∷ xs) = or_later (g x) (first_some g xs)

-- the fault of the parts of a problem: too many nets, else the first fault of the first faulty net
unfoldable pub parts_fault : Fabric → List Net → Option PartsFault
parts_fault f nets = if nat_lt 65535 (length nets) then Some TooMany else first_some (net_fault f nets) (numbers_below (length nets))

abbrev pub problem_or : RoutingProblem → Option PartsFault → Result RoutingProblem PartsFault
problem_or p None = Ok p
problem_or p (Some e) = Err e

-- the problem of these parts, or their fault
abbrev pub problem_of : Fabric → List Net → Result RoutingProblem PartsFault
problem_of f nets = problem_or (record { device = f; nets = nets }) (parts_fault f nets)

-- a net leads from a source of the device to sinks of it
pub record IsNet (f : Fabric) (n : Net) : Type 0 where
  pub source : is_source f n.source ≡ true
  pub some_sinks : 1 ≤ length n.sinks
  pub sinks : All (λ s. is_sink f s ≡ true) n.sinks
  pub ascending : IsStrictlyIncreasing n.sinks

-- what every routing problem keeps
pub record IsProblem (p : RoutingProblem) : Type 0 where
  pub few : length p.nets ≤ 65535
  pub ascending : IsStrictlyIncreasing (map (λ n. n.number) p.nets)
  pub nets : All (IsNet p.device) p.nets
