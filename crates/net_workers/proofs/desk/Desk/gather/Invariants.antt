use Rattle.std.specs.Prelude.{◌≡◌, length, sum_by}
use Rattle.net_workers.proofs.desk.Desk.gather.Given as goal

abbrev pub invariant-loop-share : goal.invariant-loop-share
invariant-loop-share g l = record {
  parts : l.rest.parts ≡ length l.yielded;
  amount : l.rest.amount ≡ sum_by (λ s. s.turns) l.yielded;
}
