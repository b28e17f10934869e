use Rattle.std.proofs.Common.{◌≡◌, ◌≤◌}
use Rattle.node_cost.specs.Options.{present_after, greatest_present}
use Rattle.node_cost.proofs.settings.Settings.present_after.Given as goal

abbrev pub invariant-loop : goal.invariant-loop
invariant-loop l = record {
  exact : l.present ≡ present_after l.self.mult l.counter l.self.init;
  bounded : l.present ≤ greatest_present;
}
