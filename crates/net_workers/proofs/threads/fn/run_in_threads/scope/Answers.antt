use Rattle.std.proofs.Common.{rules}
use Rattle.net_workers.proofs.threads.fn.run_in_threads.scope.Goals as goal
use Rattle.net_workers.proofs.threads.fn.run_in_threads.scope.Goals.{in-Ok, in-Err}

pub loop-worker-preserved-after-spawn-2 : goal.loop-worker-preserved-after-spawn-2
loop-worker-preserved-after-spawn-2 g c =
    elim c.match-spawn.branch [
      | in-Ok w ↦ search rules
      | in-Err w ↦ search rules
    ]
