-- When two devices are the same: their architectures, arrays, widths and modes are. When two
-- problems are the same: their devices and their nets are.
use Rattle.std.specs.Prelude.{ℕ, Bool, true, false, ◌==◌, ◌&&◌}
use Rattle.std.specs.Cmp.Lexicographic.{pointwise}
use Rattle.arch_file.specs.Equality.{is_same_architecture}
use Rattle.channel_tables.specs.declared.node.Mode.{Mode}
use Rattle.channel_tables.specs.declared.node.Mode.TheVariants.{Detailed, Global}
use Rattle.channel_tables.specs.Fabric.{Fabric}
use Rattle.routing_problem.specs.Problems.{Net, RoutingProblem}

abbrev pub same_mode : Mode → Mode → Bool
same_mode Detailed Detailed = true
same_mode Detailed Global = false
same_mode Global Detailed = false
same_mode Global Global = true

unfoldable pub is_same_device : Fabric → Fabric → Bool
is_same_device a b =
    a.nx == b.nx && (a.ny == b.ny && (a.width == b.width && (same_mode a.mode b.mode && is_same_architecture a.architecture b.architecture)))

abbrev pub same_number : ℕ → ℕ → Bool
same_number a b = a == b

unfoldable pub is_same_net : Net → Net → Bool
is_same_net a b = a.number == b.number && (a.source == b.source && pointwise same_number a.sinks b.sinks)

unfoldable pub is_same_problem : RoutingProblem → RoutingProblem → Bool
is_same_problem a b = is_same_device a.device b.device && pointwise is_same_net a.nets b.nets
