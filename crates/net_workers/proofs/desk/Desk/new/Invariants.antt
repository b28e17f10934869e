use Rattle.std.specs.Prelude.{◌≡◌, ◌+◌, ◌≤◌, vec_capacity}
use Rattle.net_workers.specs.WorkerParts.{AreParts}
use Rattle.net_workers.proofs.desk.Desk.new.Given as goal

abbrev pub invariant-loop-worker : goal.invariant-loop-worker
invariant-loop-worker g l = record {
  left : l.rest.parts + l.worker ≡ l.workers;
  none : l.rest.amount ≡ 0;
  parts : AreParts l.shares.items l.worker;
  room : l.workers ≤ vec_capacity l.shares;
}
