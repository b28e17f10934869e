use Rattle.std.proofs.Common.{◌≡◌, ◌+◌, ◌*◌, ◌≤◌}
use Rattle.rr_edges.specs.kept.Fanouts.{number_in, run_list}
use Rattle.rr_edges.specs.kept.Pushes.{Pushes}
use Rattle.rr_edges.proofs.fanout.NumberRun.push.Given as goal

abbrev pub invariant-loop-place : goal.invariant-loop-place
invariant-loop-place l = record {
  pushed : Pushes l.initial.list (run_list l._place l.fn.self) l.list;
  number : l.number ≡ number_in l._place l.fn.self;
  small : l.number ≤ l.fn.self.first + l._place * 32768;
}
