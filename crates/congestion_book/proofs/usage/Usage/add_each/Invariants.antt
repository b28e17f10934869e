use Rattle.std.proofs.Common.{◌≡◌}
use Rattle.std.specs.Prelude.{take}
use Rattle.route_tree.specs.kept.Marked.{nodes_of}
use Rattle.congestion_book.specs.kept.Usage.{overused_by, AddsEach}
use Rattle.congestion_book.proofs.usage.Usage.add_each.Given as goal

abbrev pub invariant-loop-row : goal.invariant-loop-row
invariant-loop-row l = record {
  counts : AddsEach l.initial.self.counts (nodes_of (take l.row-index l.rows)) l.self.counts;
  counted : l.self.overused ≡ overused_by l.device l.self.counts;
}
