use Rattle.std.proofs.Common.{rules}
use Rattle.congestion_book.specs.Contents.{net_count}
use Rattle.iteration.proofs.Advancing.{all_done}
use Rattle.iteration.proofs.closing.make_iteration.Goals as goal

pub close-requires-clause-done : goal.close-requires-clause-done
close-requires-clause-done g c = all_done (net_count c.in_ok-book.book) c.in_ok-book.book.turns c.in_ok-book.ensures.agrees.once

pub returns-clause-made : goal.returns-clause-made
returns-clause-made g c = record {
  between = c.in_ok-book.book;
  reports = c.in_ok-book.reports.items;
  agrees = search rules;
  allowed = search rules;
  closed = search rules;
  sound = search rules;
}
