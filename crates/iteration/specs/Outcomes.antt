-- The outcome of a negotiation.
use Rattle.std.specs.Prelude.{◌≡◌, ℕ, ◌+◌, ◌-◌, ◌<◌, ◌≤◌, ◌++◌, ◌∷◌, [], false, length, None}
use Rattle.routing_problem.specs.Problems.{RoutingProblem}
use Rattle.node_cost.specs.Options.{RouterOptions, present_of}
use Rattle.route_check.specs.Routed.{IsRouted}
use Rattle.route_tree.specs.Usage.{list_in}
use Rattle.congestion_book.specs.Histories.{row_of}
use Rattle.congestion_book.specs.Contents.{Content, IsSound}
use Rattle.congestion_book.specs.Steps.{after_close}
use Rattle.net_workers.specs.Searches.{IsStuckNet}
use Rattle.net_workers.specs.Schedules.{TurnRule}
use Rattle.iteration.specs.declared.outcome.Outcome.{Outcome}
use Rattle.iteration.specs.declared.outcome.Outcome.TheVariants.{Success, NotRouted}
use Rattle.iteration.specs.Progress.{IsReached, goes_on, unrouted_of, overused_of}

-- The outcome says what a book holds: its trees, if each net has one and no node is overused; else
-- how many nets have none and how many nodes are overused. It has as many iterations as the book
-- has rows.
abbrev pub IsOutcomeOf : Content → Outcome → Type 0
IsOutcomeOf c (Success lists iterations) = (lists ≡ c.lists) × (iterations ≡ length c.rows) × (unrouted_of c ≡ 0) × (overused_of c ≡ 0)
IsOutcomeOf c (NotRouted unrouted overused iterations) =
    (unrouted ≡ unrouted_of c) × (overused ≡ overused_of c) × (iterations ≡ length c.rows) × (1 ≤ unrouted + overused)

-- the outcome is that of the first book of a negotiation, by these rules, with which it doesn't go
-- on
pub record EndsNegotiation (p : RoutingProblem) (o : RouterOptions) (workers : ℕ) (allows : TurnRule) (outcome : Outcome) : Type 0 where
  pub last : Content
  pub reached : IsReached p o workers allows last
  pub ended : goes_on o last ≡ false
  pub reported : IsOutcomeOf last outcome

-- a book of this problem, with these options, after this many iterations
pub record IsBookAfter (p : RoutingProblem) (o : RouterOptions) (iterations : ℕ) (c : Content) : Type 0 where
  pub problem : c.problem ≡ p
  pub acc : c.acc ≡ o.acc
  pub rows : length c.rows ≡ iterations

-- What is left if a negotiation doesn't succeed within its limit: after this many iterations, some
-- nets have no tree, each of which is stuck in what it saw in the last iteration, after some of its
-- turns, or some nodes are overused. Before the limit it ends only if a net has no tree.
pub record IsLeft (p : RoutingProblem) (o : RouterOptions) (unrouted overused iterations : ℕ) : Type 0 where
  pub some : 1 ≤ unrouted + overused
  pub least : 1 ≤ iterations
  pub most : iterations ≤ o.iterations
  pub early : iterations < o.iterations → 1 ≤ unrouted
  -- the book before the last iteration, the one at its end, before it was closed, and the one that
  -- it leaves: the first and the last are sound, and the last also has the iteration's row
  pub before : Content
  pub between : Content
  pub book : Content
  pub begins : IsBookAfter p o (iterations - 1) before
  pub ends : IsBookAfter p o iterations book
  pub sound_before : IsSound before
  pub sound : IsSound book
  pub closed : book ≡ after_close between
  pub row : book.rows ≡ before.rows ++ row_of p book.lists ∷ []
  pub without : unrouted_of book ≡ unrouted
  pub over : overused_of book ≡ overused
  pub stuck : (i : ℕ) → i < length p.nets → list_in book.lists i ≡ None → IsStuckNet before between (present_of o iterations) o.bb i

-- A success is a routing of the problem: one legal list for each net, and no node overused.
-- Otherwise what is left is reported.
abbrev pub IsOutcome : RoutingProblem → RouterOptions → Outcome → Type 0
IsOutcome p o (Success lists iterations) = IsRouted p lists × (1 ≤ iterations) × (iterations ≤ o.iterations)
IsOutcome p o (NotRouted unrouted overused iterations) = IsLeft p o unrouted overused iterations
