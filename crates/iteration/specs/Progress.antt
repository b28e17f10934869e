-- How a negotiation goes on, iteration by iteration (McMurchie and Ebeling 1995, "negotiated
-- congestion").
use Rattle.std.specs.Prelude.{◌≡◌, ℕ, ◌+◌, ◌==◌, nat_lt, Bool, true, ◌&&◌, ◌||◌, List, length}
use Rattle.routing_problem.specs.Problems.{RoutingProblem}
use Rattle.node_cost.specs.Options.{RouterOptions, present_of}
use Rattle.congestion_book.specs.Recorded.{unrouted_in, overused_in}
use Rattle.congestion_book.specs.Contents.{Content, IsSound, opening}
use Rattle.congestion_book.specs.Steps.{after_close}
use Rattle.net_workers.specs.declared.report.ReportEntry.{ReportEntry}
use Rattle.net_workers.specs.Agreement.{Agrees}
use Rattle.net_workers.specs.Schedules.{TurnRule, AreAllowed}

-- how many nets of a book have no tree, and how many nodes are overused
abbrev pub unrouted_of : Content → ℕ
unrouted_of c = unrouted_in c.lists

abbrev pub overused_of : Content → ℕ
overused_of c = overused_in c.problem c.lists

-- One iteration, by this many workers: their reports agree with the book that they leave, its turns
-- are such as the rule allows, and it is then closed.
pub record IsIteration (o : RouterOptions) (workers : ℕ) (allows : TurnRule) (old new : Content) : Type 0 where
  pub between : Content
  pub reports : List (List ReportEntry)
  pub agrees : Agrees old between (present_of o (length old.rows + 1)) o.bb workers reports
  pub allowed : AreAllowed allows (length old.rows + 1) between reports
  pub closed : new ≡ after_close between
  pub sound : IsSound new

-- another iteration follows: none was made yet; or each net has a tree, a node is overused, and the
-- limit isn't reached
abbrev pub goes_on : RouterOptions → Content → Bool
goes_on o c = length c.rows == 0 || ((unrouted_of c == 0) && nat_lt 0 (overused_of c) && nat_lt (length c.rows) o.iterations)

-- how far the negotiation of a problem may be: at its beginning, or after one more iteration, by
-- all workers, if it goes on
pub data IsReached (p : RoutingProblem) (o : RouterOptions) (workers : ℕ) (allows : TurnRule) : Content → Type 0 where
  begun : IsReached p o workers allows (opening p o.acc)
  followed : (old new : Content) → IsReached p o workers allows old → goes_on o old ≡ true → IsIteration o workers allows old new → IsReached p o workers allows new
