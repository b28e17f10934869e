-- What a draw shows, and what a turn leaves as it was.
use Rattle.std.proofs.Common.{◌≡◌, ℕ, ◌<◌, length, Option, Some, None, Result, Ok, Err, ap, arith}
use Rattle.routing_problem.specs.Problems.{RoutingProblem}
use Rattle.node_cost.specs.Views.{NetView}
use Rattle.congestion_book.specs.declared.faults.DrawFault.{DrawFault}
use Rattle.congestion_book.specs.Contents.{Content, IsSound, net_count}
use Rattle.congestion_book.specs.Steps.{Draws}
use Rattle.net_workers.specs.WorkerParts.{IsOfIteration}
use Rattle.net_workers.specs.Searches.{ShowsNet}

pub shows_net : (opening old new : Content) (seen view : NetView) (worker : ℕ) (answer : Result (Option ℕ) DrawFault) → IsSound old → IsOfIteration opening old →
    Draws old seen worker answer new view → ShowsNet opening answer view
shows_net opening old new seen view worker (Err fault) sound within draws = tt
shows_net opening old new seen view worker (Ok None) sound within draws = tt
shows_net opening old new seen view worker (Ok (Some net)) sound within draws =
    let nets : net_count old ≡ net_count opening = ap (λ (p : RoutingProblem). length p.nets) within.problem in
    let low : net < net_count old = draws.2 in (
      omega (arith, low, nets),
      record { book = old; sound = sound; within = within; shown = draws.4 },
    )
