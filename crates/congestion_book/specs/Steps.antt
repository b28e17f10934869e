-- What each event does to a book: the answer, the book and the view after it.
use Rattle.std.specs.Prelude.{◌≡◌, ◌≢◌, ℕ, ◌+◌, ◌<◌, ◌≤◌, List, [], ◌∷◌, ◌++◌, length, set, replicate, Option, Some, None, is_none, Result, Ok, Err}
use Rattle.route_tree.specs.Paths.{Pair}
use Rattle.route_tree.specs.Faults.{IsRoute, IsFirstFault}
use Rattle.node_cost.specs.Options.{most_iterations}
use Rattle.node_cost.specs.Views.{NetView}
use Rattle.congestion_book.specs.declared.faults.DrawFault.{DrawFault}
use Rattle.congestion_book.specs.declared.faults.DrawFault.TheVariants.{ViewSize}
use Rattle.congestion_book.specs.declared.faults.CommitFault.{CommitFault}
use Rattle.congestion_book.specs.declared.faults.CommitFault.TheVariants as commit
use Rattle.congestion_book.specs.declared.faults.PassFault.{PassFault}
use Rattle.congestion_book.specs.declared.faults.PassFault.TheVariants as pass
use Rattle.congestion_book.specs.declared.faults.CloseFault.{CloseFault}
use Rattle.congestion_book.specs.declared.faults.CloseFault.TheVariants.{Unfinished, Full, Memory}
use Rattle.congestion_book.specs.Turns.{holder_in, turn_of, IsFirstWaiting}
use Rattle.congestion_book.specs.Histories.{row_of, histories_of}
use Rattle.congestion_book.specs.Recorded.{occupancies_of}
use Rattle.congestion_book.specs.Contents.{Content, net_count, node_total, view_of}

-- the worker holds the least net that was not drawn
abbrev pub after_draw : Content → (worker : ℕ) → Content
after_draw c worker = record c { drawn = c.drawn + 1; holders = set c.holders c.drawn (Some worker) }

-- the net has this list, or none, occupancies are those of the new lists, nobody holds it, and the
-- turn is noted
abbrev pub after_turn : Content → (worker net : ℕ) → Option (List Pair) → Content
after_turn c worker net list =
    record c {
      lists = set c.lists net list;
      occupancies = occupancies_of c.problem (set c.lists net list);
      holders = set c.holders net None;
      turns = c.turns ++ turn_of worker net (is_none list) ∷ [];
    }

-- the iteration's row is appended, the histories grow by it, and the next iteration opens with
-- nothing drawn, held or turned
abbrev pub after_close : Content → Content
after_close c =
    record c {
      rows = c.rows ++ row_of c.problem c.lists ∷ [];
      histories = histories_of (node_total c) c.acc (c.rows ++ row_of c.problem c.lists ∷ []);
      drawn = 0;
      holders = replicate (net_count c) None;
      turns = [];
      earlier = c.earlier ++ c.turns ∷ [];
    }

-- A draw gives the least net that was not drawn, and its view; none if all were drawn. A view of
-- another size is refused first.
abbrev pub Draws : Content → NetView → (worker : ℕ) → Result (Option ℕ) DrawFault → Content → NetView → Type 0
Draws old seen worker (Err ViewSize) new sees = (length seen ≢ node_total old) × (new ≡ old) × (sees ≡ seen)
Draws old seen worker (Ok None) new sees = (length seen ≡ node_total old) × (old.drawn ≡ net_count old) × (new ≡ old) × (sees ≡ seen)
Draws old seen worker (Ok (Some net)) new sees =
    (length seen ≡ node_total old) × (net ≡ old.drawn) × (net < net_count old) × (new ≡ after_draw old worker) × (sees ≡ view_of old net)

-- A draw without a view.
abbrev pub DrawsNet : Content → (worker : ℕ) → Option ℕ → Content → Type 0
DrawsNet old worker None new = (old.drawn ≡ net_count old) × (new ≡ old)
DrawsNet old worker (Some net) new = (net ≡ old.drawn) × (net < net_count old) × (new ≡ after_draw old worker)

-- the worker holds the net, and the pairs route it
abbrev pub MayCommit : Content → (worker net : ℕ) → List Pair → Type 0
MayCommit c worker net pairs = (holder_in c.holders net ≡ Some worker) × IsRoute c.problem net pairs

-- A commit needs the worker's hold on the net, and then pairs that route it; else the first fault
-- is reported, and nothing changes.
abbrev pub Commits : Content → (worker net : ℕ) → List Pair → Result (Unit {0}) CommitFault → Content → Type 0
Commits old worker net pairs (Ok done) new =
    (holder_in old.holders net ≡ Some worker) × IsRoute old.problem net pairs × (new ≡ after_turn old worker net (Some pairs))
Commits old worker net pairs (Err commit.NotHeld) new = (holder_in old.holders net ≢ Some worker) × (new ≡ old)
Commits old worker net pairs (Err (commit.Illegal fault)) new =
    (holder_in old.holders net ≡ Some worker) × IsFirstFault old.problem net pairs fault × (new ≡ old)

-- A pass needs the worker's hold on the net.
abbrev pub Passes : Content → (worker net : ℕ) → Result (Unit {0}) PassFault → Content → Type 0
Passes old worker net (Ok done) new = (holder_in old.holders net ≡ Some worker) × (new ≡ after_turn old worker net None)
Passes old worker net (Err pass.NotHeld) new = (holder_in old.holders net ≢ Some worker) × (new ≡ old)

-- The end of a turn, with a list that routes the net or with none, needs the worker's hold on it.
abbrev pub EndsTurn : Content → (worker net : ℕ) → Option (List Pair) → Result (Unit {0}) PassFault → Content → Type 0
EndsTurn old worker net list (Ok done) new = (holder_in old.holders net ≡ Some worker) × (new ≡ after_turn old worker net list)
EndsTurn old worker net list (Err pass.NotHeld) new = (holder_in old.holders net ≢ Some worker) × (new ≡ old)

-- A close needs a turn at each net, then fewer than 500 rows, then memory.
abbrev pub Closes : Content → Result (Unit {0}) CloseFault → Content → Type 0
Closes old (Ok done) new = IsFirstWaiting old.turns (net_count old) None × (length old.rows < most_iterations) × (new ≡ after_close old)
Closes old (Err (Unfinished net)) new = IsFirstWaiting old.turns (net_count old) (Some net) × (new ≡ old)
Closes old (Err Full) new = IsFirstWaiting old.turns (net_count old) None × (most_iterations ≤ length old.rows) × (new ≡ old)
Closes old (Err Memory) new = IsFirstWaiting old.turns (net_count old) None × (length old.rows < most_iterations) × (new ≡ old)

-- the answer of a commit without the tree that comes back
abbrev pub fault_alone : {A B T : Type 0} → Result A (B × T) → Result A B
fault_alone (Ok done) = Ok done
fault_alone (Err e) = Err e.0
