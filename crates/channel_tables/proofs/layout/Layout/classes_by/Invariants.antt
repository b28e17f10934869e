use Rattle.std.proofs.Common.{◌≡◌}
use Rattle.std.specs.List.{filter}
use Rattle.arch_file.specs.Architecture.{class_direction}
use Rattle.channel_tables.specs.Fabric.{numbers_below}
use Rattle.channel_tables.specs.Pins.{has_direction}
use Rattle.channel_tables.proofs.layout.Layout.classes_by.Given as goal

abbrev pub invariant-loop-class : goal.invariant-loop-class
invariant-loop-class l = l.classes.items ≡ filter (λ c. has_direction l.direction (class_direction l.self.architecture c)) (numbers_below l.class)
