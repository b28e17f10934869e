-- What a list of events does to a book.
use Rattle.std.specs.Prelude.{◌≡◌, ◌≢◌, ◌⊎◌, ◌<◌, List, [], ◌∷◌, length, get_or, take, None, Err}
use Rattle.route_tree.specs.Rows.{pairs_of}
use Rattle.node_cost.specs.Options.{most_iterations}
use Rattle.congestion_book.specs.declared.faults.CloseFault.TheVariants as close
use Rattle.congestion_book.specs.declared.events.Event.{Event}
use Rattle.congestion_book.specs.declared.events.Event.TheVariants.{Draw, Commit, Pass, Close}
use Rattle.congestion_book.specs.declared.events.Reply.{Reply}
use Rattle.congestion_book.specs.declared.events.Reply.TheVariants.{Drawn, Committed, Passed, Closed}
use Rattle.congestion_book.specs.declared.events.RunFault.{RunFault}
use Rattle.congestion_book.specs.declared.events.RunFault.TheVariants.{Memory}
use Rattle.congestion_book.specs.Turns.{IsFirstWaiting}
use Rattle.congestion_book.specs.Contents.{Content, IsSound, net_count}
use Rattle.congestion_book.specs.Steps.{Draws, Commits, Passes, Closes}
use Rattle.node_cost.specs.Views.{NetView}

-- One event: each call's answer is its reply, and only a draw changes the view. A close that has no
-- memory has no reply.
abbrev pub Steps : Content → NetView → Event → Reply → Content → NetView → Type 0
Steps old seen (Draw worker) (Drawn answer) new sees = Draws old seen worker answer new sees
Steps old seen (Commit worker net tree) (Committed answer) new sees = Commits old worker net (pairs_of tree) answer new × (sees ≡ seen)
Steps old seen (Pass worker net) (Passed answer) new sees = Passes old worker net answer new × (sees ≡ seen)
Steps old seen Close (Closed answer) new sees = Closes old answer new × (answer ≢ Err close.Memory) × (sees ≡ seen)
Steps old seen _ _ new sees = ⊥

-- The events happen one after another, each on the book and the view that the ones before left, and
-- each leaves a sound book.
abbrev pub Runs : Content → NetView → List Event → List Reply → Content → NetView → Type 0
Runs old seen [] [] new sees = (new ≡ old) × (sees ≡ seen)
Runs old seen (event ∷ events) (reply ∷ replies) new sees =
    (between : Content) × (shown : NetView) × Steps old seen event reply between shown × IsSound between × Runs between shown events replies new sees
Runs old seen _ _ new sees = ⊥

-- The event takes memory: a commit, whose tree is copied, and a close that may go on.
abbrev pub TakesMemory : Content → Event → Type 0
TakesMemory c (Draw worker) = ⊥
TakesMemory c (Commit worker net tree) = Unit {0}
TakesMemory c (Pass worker net) = ⊥
TakesMemory c Close = IsFirstWaiting c.turns (net_count c) None × (length c.rows < most_iterations)

-- Memory ran out at an event: those before it happened, and no other. It is the first one, if there
-- was none for the replies, or one that takes memory.
abbrev pub StopsAfter : Content → NetView → List Event → RunFault → Content → NetView → Type 0
StopsAfter old seen events (Memory n) new sees =
    (n < length events) × ((n ≡ 0) ⊎ TakesMemory new (get_or events n Close)) × ((replies : List Reply) × Runs old seen (take n events) replies new sees)
