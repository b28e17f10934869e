-- What the calls of a book do, as steps of its content.
use Rattle.std.proofs.Common.{◌≡◌, ℕ, ◌<◌, ◌≤◌, length, Option, Some, None, Bool, true, false, nat_le, if◌then◌else◌, Ok, refl, ap, subst, arith}
use Rattle.routing_problem.specs.Nodes.{node_count_of}
use Rattle.route_tree.specs.TreeLists.{lists_of_trees}
use Rattle.congestion_book.specs.Turns.{TurnTable, IsFirstWaiting}
use Rattle.congestion_book.specs.kept.TurnTables.{GivesNet}
use Rattle.route_tree.specs.Usage.{list_in}
use Rattle.congestion_book.specs.kept.Views.{SeesOthers}
use Rattle.congestion_book.specs.Contents.{Content}
use Rattle.congestion_book.specs.Steps.{Draws}
use Rattle.congestion_book.specs.Looks.{Looks}
use Rattle.node_cost.specs.Views.{NetView}
use Rattle.congestion_book.specs.kept.Closing.{TellsClosing}
use Rattle.congestion_book.specs.declared.faults.CloseFault.TheVariants.{Unfinished, Full}
use Rattle.std.proofs.lemmas.Bool.Decides.{nat_tests}
use Rattle.congestion_book.specs.declared.book.Book.TheInside.{Inside}
use Rattle.congestion_book.specs.kept.Fields.{content_of, IsBookInside}
use Rattle.congestion_book.proofs.Seeing.{view_is}

-- the content with other turns
abbrev pub with_turns : Inside → TurnTable → Content
with_turns b t = content_of (record { problem = b.problem; routes = b.routes; history = b.history; turns = t; marks = b.marks })

pub draws_net : (b : Inside) (kept : IsBookInside b) (seen view : NetView) (worker net : ℕ) (t : TurnTable) → length seen ≡ node_count_of b.problem.device →
    GivesNet b.turns worker (Some net) t →
    SeesOthers b.problem net (list_in (lists_of_trees b.routes.trees.items) net) b.routes.usage.counts b.history.histories view →
    Draws (content_of b) seen worker (Ok (Some net)) (with_turns b t) view
draws_net b kept seen view worker net t size gives sees =
    let low : net < length b.problem.nets = omega (arith, gives.1, kept.sound.held) in (
      size,
      gives.0,
      low,
      ap (with_turns b) gives.2,
      view_is (content_of b) kept.sound net low view sees,
    )

pub looks_net : (b : Inside) (kept : IsBookInside b) (seen view : NetView) (net : ℕ) (done : Unit {0}) → length seen ≡ node_count_of b.problem.device →
    net < length b.problem.nets →
    SeesOthers b.problem net (list_in (lists_of_trees b.routes.trees.items) net) b.routes.usage.counts b.history.histories view →
    Looks (content_of b) seen net (Ok done) view
looks_net b kept seen view net done size low sees = (size, view_is (content_of b) kept.sound net low view sees)

-- ---- a close
module _ (b : Inside) (kept : IsBookInside b) where
  waiting : (first : Option ℕ) → IsFirstWaiting b.turns.turns (length b.turns.holders) first → IsFirstWaiting b.turns.turns (length b.problem.nets) first
  waiting first w = subst (λ n. IsFirstWaiting b.turns.turns n first) kept.sound.held w

  pub tells_unfinished : (net : ℕ) → IsFirstWaiting b.turns.turns (length b.turns.holders) (Some net) → TellsClosing (content_of b) (Some (Unfinished net))
  tells_unfinished net w = (waiting (Some net) w, refl)

  full_or_not : (t : Bool) → nat_le 500 (length b.history.rows) ≡ t → IsFirstWaiting b.turns.turns (length b.problem.nets) None →
      TellsClosing (content_of b) (if t then Some Full else None)
  full_or_not true e w = let more : 500 ≤ length b.history.rows = grind (arith, nat_tests) in (w, more, refl)
  full_or_not false e w = let less : length b.history.rows < 500 = grind (arith, nat_tests) in (w, less)

  pub tells_full : IsFirstWaiting b.turns.turns (length b.turns.holders) None →
      TellsClosing (content_of b) (if nat_le 500 (length b.history.rows) then Some Full else None)
  tells_full w = full_or_not (nat_le 500 (length b.history.rows)) refl (waiting None w)
