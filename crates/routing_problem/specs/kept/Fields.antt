-- What the fields of a `Layout`, of `Terminals` and of a `Problem` mean.
use Rattle.routing_problem.specs.Problems.{Net, RoutingProblem}
use Rattle.routing_problem.specs.declared.nets.Terminals.TheInside as terminals
use Rattle.routing_problem.specs.declared.problem.Problem.TheInside as problem

abbrev pub net_of : terminals.Inside → Net
net_of t = record { number = t.number; source = t.source; sinks = t.sinks.items }

abbrev pub problem_inside : problem.Inside → RoutingProblem
problem_inside p = record { device = p.device; nets = p.nets.items }
