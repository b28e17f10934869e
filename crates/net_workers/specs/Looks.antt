-- When a worker that is about to commit a tree looks and searches again (ours): if the others have
-- filled a node of the tree since it looked.
use Rattle.std.specs.Prelude.{◌≡◌, ℕ, ◌==◌, nat_lt, Bool, true, false, ◌&&◌, List, length, Result, Ok, Err}
use Rattle.route_tree.specs.declared.tree.Row.{Row}
use Rattle.route_tree.specs.Rows.{pairs_of}
use Rattle.node_cost.specs.Views.{NetView}
use Rattle.congestion_book.specs.declared.faults.CommitFault.{CommitFault}
use Rattle.congestion_book.specs.Contents.{Content, net_count, node_total, view_of}
use Rattle.congestion_book.specs.Looks.{have_filled}
use Rattle.congestion_book.specs.Steps.{Commits}
use Rattle.net_workers.specs.declared.turn_or_look.TurnOrLook.{TurnOrLook}
use Rattle.net_workers.specs.declared.turn_or_look.TurnOrLook.TheVariants.{Turn, Look}
use Rattle.net_workers.specs.WorkerParts.{Part, one_more}
use Rattle.net_workers.specs.Searches.{IsSeenIn}

-- the others have filled a node of the net's tree since this view of the net was shown
abbrev pub looks_again : Content → (net : ℕ) → NetView → List Row → Bool
looks_again c net seen rows = nat_lt net (net_count c) && (length seen == node_total c) && have_filled c net seen rows

-- One hold of the lock: if the others have filled a node of the tree the worker looks again, and
-- the book is as it was; else it commits.
abbrev pub CommitsOrLooks : Content → NetView → (worker net : ℕ) → List Row → Result TurnOrLook CommitFault → Content → NetView → Type 0
CommitsOrLooks old seen worker net rows (Ok Look) new sees = (looks_again old net seen rows ≡ true) × (new ≡ old) × (sees ≡ view_of old net)
CommitsOrLooks old seen worker net rows (Ok Turn) new sees =
    (looks_again old net seen rows ≡ false) × Commits old worker net (pairs_of rows) (Ok tt) new × (sees ≡ seen)
CommitsOrLooks old seen worker net rows (Err fault) new sees =
    (looks_again old net seen rows ≡ false) × Commits old worker net (pairs_of rows) (Err fault) new × (sees ≡ seen)

-- the worker's part after what it made: one turn more, or as it was
abbrev pub part_with : {E : Type 0} → Result TurnOrLook E → Part → Part
part_with (Ok Turn) p = one_more p
part_with (Ok Look) p = p
part_with (Err fault) p = p

-- where the worker looked again, it sees what the net may see in the iteration
abbrev pub ShowsAgain : {E : Type 0} → Content → (net : ℕ) → Result TurnOrLook E → NetView → Type 0
ShowsAgain opening net (Ok Look) view = IsSeenIn opening net view
ShowsAgain opening net (Ok Turn) view = Unit {0}
ShowsAgain opening net (Err fault) view = Unit {0}
