use Rattle.std.proofs.Common.{rules}
use Rattle.net_workers.proofs.WorkerParts.{parts_more}
use Rattle.net_workers.proofs.desk.Desk.new.Goals as goal

pub loop-worker-preserved : goal.loop-worker-preserved
loop-worker-preserved g c =
    let was = c.loop-worker.invariant in
    record {
      left = search rules;
      none = search rules;
      parts = rw (c.push_reserved.ensures.items, c.new.ensures) (parts_more c.loop-worker.shares.items c.loop-worker.worker was.parts);
      room = search rules;
    }
