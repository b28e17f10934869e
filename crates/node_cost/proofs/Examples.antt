-- Costs and factors worked by hand.
use Rattle.std.proofs.Common.{◌≡◌, refl}
use Rattle.node_cost.specs.Costs.{cost_of}
use Rattle.node_cost.specs.Options.{present_of, standard_options}

-- a wire that one net uses, which has room for one
shared_wire : cost_of 20 0 1 1 8 ≡ 480
shared_wire = refl

-- an input pin with a history of 20
remembered_pin : cost_of 19 20 1 0 8 ≡ 624
remembered_pin = refl

-- a sink with room for two, which one net uses
shared_sink : cost_of 0 0 2 1 8 ≡ 0
shared_sink = refl

first_factor : present_of standard_options 1 ≡ 8
unfolding present_of
first_factor = refl

second_factor : present_of standard_options 2 ≡ 8
unfolding present_of
second_factor = refl

third_factor : present_of standard_options 3 ≡ 16
unfolding present_of
third_factor = refl

-- from here on it is the greatest there is
greatest_factor : present_of standard_options 19 ≡ 1048576
unfolding present_of
greatest_factor = refl

last_factor : present_of standard_options 500 ≡ 1048576
unfolding present_of
last_factor = refl
