-- What the searches of an iteration see and find.
use Rattle.std.specs.Prelude.{◌≡◌, ℕ, ◌<◌, ◌≤◌, List, [], ◌∷◌, length, take, set, Option, Some, None, Result, Ok, Err, All}
use Rattle.route_tree.specs.declared.tree.Row.{Row}
use Rattle.route_tree.specs.Usage.{Lists, list_in}
use Rattle.node_cost.specs.Views.{NetView}
use Rattle.wavefront.specs.Space.{Space}
use Rattle.wavefront.specs.Growth.{IsWhole, IsStuck, space_of}
use Rattle.congestion_book.specs.declared.faults.DrawFault.{DrawFault}
use Rattle.congestion_book.specs.declared.turn.Turn.{Turn}
use Rattle.congestion_book.specs.Turns.{turns_at}
use Rattle.congestion_book.specs.Contents.{Content, IsSound, net_count, view_of}
use Rattle.net_workers.specs.declared.report.ReportEntry.{ReportEntry}
use Rattle.net_workers.specs.WorkerParts.{IsOfIteration}

-- what a net may see in the iteration that opens with a book: what a sound book of that iteration
-- shows of it
pub record IsSeenIn (opening : Content) (net : ℕ) (view : NetView) : Type 0 where
  pub book : Content
  pub sound : IsSound book
  pub within : IsOfIteration opening book
  pub shown : view ≡ view_of book net

-- a net that was drawn is one of the book's, and the view is what it may see
abbrev pub ShowsNet : Content → Result (Option ℕ) DrawFault → NetView → Type 0
ShowsNet c (Ok (Some net)) view = (net < net_count c) × IsSeenIn c net view
ShowsNet c (Ok None) view = Unit {0}
ShowsNet c (Err fault) view = Unit {0}

-- a tree that a search may find there, or none if the net is stuck
abbrev pub IsFoundIn : Space → Option (List Row) → Type 0
IsFoundIn s (Some rows) = IsWhole s rows
IsFoundIn s None = (sink : ℕ) × IsStuck s sink

-- the lists of before, but for each net that had one of these turns its list of after
abbrev pub lists_turned : (before after : Lists) → List Turn → Lists
lists_turned before after [] = before
lists_turned before after (t ∷ ts) = lists_turned (set before t.net (list_in after t.net)) after ts

-- The book that opens an iteration after the first m turns of the iteration, which has left the new
-- book: each net that had one of them has its new list.
abbrev pub after_turns : (old new : Content) → (m : ℕ) → Content
after_turns old new m = record old { lists = lists_turned old.lists new.lists (take m new.turns) }

-- the net's own turn is none of the first m turns that the book has
abbrev pub IsBeforeOwn : Content → (m net : ℕ) → Type 0
IsBeforeOwn new m net = (m ≤ length new.turns) × (turns_at (take m new.turns) net ≡ 0)

-- what the net sees after the first m turns
abbrev pub view_after : (old new : Content) → (m net : ℕ) → NetView
view_after old new m net = view_of (after_turns old new m) net

-- The entry's tree, or that it has none, is what a search finds by what the net sees after the
-- first turns, as many as the entry says, all of which were made before its own.
unfoldable pub IsFound : (old new : Content) → (present bb : ℕ) → ReportEntry → Type 0
IsFound old new present bb e =
    IsBeforeOwn new e.seen e.net × IsFoundIn (space_of old.problem e.net (view_after old new e.seen e.net) present bb) e.tree

abbrev pub AreFound : (old new : Content) → (present bb : ℕ) → List ReportEntry → Type 0
AreFound old new present bb entries = All (IsFound old new present bb) entries

-- a search for the net, by what it sees after some turns that were made before its own, finds it
-- stuck
unfoldable pub IsStuckNet : (old new : Content) → (present bb net : ℕ) → Type 0
IsStuckNet old new present bb net =
    (m : ℕ) × IsBeforeOwn new m net × ((sink : ℕ) × IsStuck (space_of old.problem net (view_after old new m net) present bb) sink)
