use Rattle.std.specs.Prelude.{◌≡◌}
use Rattle.net_workers.proofs.workspace.Workspace.keep.Given as goal

abbrev pub invariant-loop-report : goal.invariant-loop-report
invariant-loop-report l = l.self-inside.prepared ≡ l.initial.self-inside.prepared
