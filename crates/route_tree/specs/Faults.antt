-- What is wrong with a list of pairs for a net: each fault as a condition of its own.
use Rattle.std.specs.Prelude.{◌≡◌, ℕ, ◌==◌, ◌<◌, ◌≤◌, Bool, true, false, not, ◌&&◌, nat_lt, List, [], ◌∷◌, length, All, count_by}
use Rattle.std.specs.List.{list_any}
use Rattle.routing_problem.specs.Fabric.{Fabric}
use Rattle.routing_problem.specs.Edges.{edge_between}
use Rattle.routing_problem.specs.Problems.{RoutingProblem, net_in, is_sink}
use Rattle.route_tree.specs.declared.fault.TreeFault.{TreeFault}
use Rattle.route_tree.specs.declared.fault.TreeFault.TheVariants.{NoNet, WrongSource, NoSwitch, NodeTwice, SecondOutput, ForeignSink, Dangling, MissingSink, Order}
use Rattle.route_tree.specs.Paths.{Pair, ends_of}
use Rattle.route_tree.specs.Legality.{is_among, has_twice, IsJoined, IsLegal, IsListed, is_listed}

-- there is no pair, or the first one doesn't begin at the source
abbrev pub begins_elsewhere : (source : ℕ) → List Pair → Bool
begins_elsewhere source [] = true
begins_elsewhere source (p ∷ ps) = not (p.0 == source)

-- a pair is no edge of the device
abbrev pub lacks_switch : Fabric → List Pair → Bool
lacks_switch f pairs = list_any (λ p. not (edge_between f p.0 p.1)) pairs

-- two pairs end in one node, or one in the source
abbrev pub reaches_twice : (source : ℕ) → List Pair → Bool
reaches_twice source pairs = has_twice (source ∷ ends_of pairs)

-- two pairs begin at the source
abbrev pub leaves_twice : (source : ℕ) → List Pair → Bool
leaves_twice source pairs = nat_lt 1 (count_by (λ p. p.0 == source) pairs)

-- a pair ends in a sink that is not the net's
abbrev pub has_foreign_sink : Fabric → (sinks : List ℕ) → List Pair → Bool
has_foreign_sink f sinks pairs = list_any (λ b. is_sink f b && not (is_among sinks b)) (ends_of pairs)

-- there is a sink of the net at which no pair ends
abbrev pub misses_sink : (sinks : List ℕ) → List Pair → Bool
misses_sink sinks pairs = list_any (λ s. not (is_among (ends_of pairs) s)) sinks

-- the fault is one of these pairs for net i of the problem
abbrev pub HasFault : RoutingProblem → ℕ → List Pair → TreeFault → Type 0
HasFault p i pairs NoNet = length p.nets ≤ i
HasFault p i pairs WrongSource = begins_elsewhere (net_in p.nets i).source pairs ≡ true
HasFault p i pairs NoSwitch = lacks_switch p.device pairs ≡ true
HasFault p i pairs NodeTwice = reaches_twice (net_in p.nets i).source pairs ≡ true
HasFault p i pairs SecondOutput = leaves_twice (net_in p.nets i).source pairs ≡ true
HasFault p i pairs ForeignSink = has_foreign_sink p.device (net_in p.nets i).sinks pairs ≡ true
HasFault p i pairs Dangling = ¬ All (IsJoined (net_in p.nets i) pairs) pairs
HasFault p i pairs MissingSink = misses_sink (net_in p.nets i).sinks pairs ≡ true
HasFault p i pairs Order = is_listed p.device (net_in p.nets i) pairs ≡ false

-- the place of a fault among the faults
abbrev pub rank_of : TreeFault → ℕ
rank_of NoNet = 1
rank_of WrongSource = 2
rank_of NoSwitch = 3
rank_of NodeTwice = 4
rank_of SecondOutput = 5
rank_of ForeignSink = 6
rank_of Dangling = 7
rank_of MissingSink = 8
rank_of Order = 9

-- the fault is the first that these pairs have
pub record IsFirstFault (p : RoutingProblem) (i : ℕ) (pairs : List Pair) (fault : TreeFault) : Type 0 where
  pub there : HasFault p i pairs fault
  pub none_before : (other : TreeFault) → rank_of other < rank_of fault → ¬ HasFault p i pairs other

-- the pairs route net i of the problem, in the order in which routings are written
pub record IsRoute (p : RoutingProblem) (i : ℕ) (pairs : List Pair) : Type 0 where
  pub net : i < length p.nets
  pub legal : IsLegal p.device (net_in p.nets i) pairs
  pub listed : IsListed p.device (net_in p.nets i) pairs
