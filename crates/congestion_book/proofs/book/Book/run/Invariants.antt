use Rattle.std.proofs.Common.{◌≡◌, ◌≤◌, length}
use Rattle.std.specs.Prelude.{take, vec_capacity}
use Rattle.congestion_book.specs.Runs.{Runs}
use Rattle.congestion_book.proofs.book.Book.run.Given as goal

abbrev pub invariant-loop-index : goal.invariant-loop-index
invariant-loop-index l = record {
  so_far : Runs l.initial.self l.initial.view (take l.index l.events) l.replies.items l.self l.view;
  count : length l.replies.items ≡ l.index;
  room : length l.events ≤ vec_capacity l.replies;
}
