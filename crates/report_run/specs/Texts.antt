-- The pieces of a report's lines (ours).
use Rattle.std.specs.Prelude.{ℕ, ◌+◌, ◌*◌, ◌/◌, ◌%◌, max, nat_lt, if◌then◌else◌, List, ◌++◌, codes, decimal, slice_index_or}
use Rattle.net_file.specs.Netlist.{Netlist}
use Rattle.net_file.specs.Routed.{no_net}
use Rattle.rr_graph.specs.Problems.{RoutingProblem, net_in}

-- a number in one byte: `0` to `9`, `a` to `z` from 10 on, and `*` from 36 on
abbrev pub digit_code : ℕ → ℕ
digit_code n = if nat_lt n 10 then 48 + n else (if nat_lt n 36 then 87 + n else 42)

-- a part and the whole, as `345 of 2640`
unfoldable pub share_text : (part whole : ℕ) → List ℕ
share_text part whole = decimal part ++ (codes " of " ++ decimal whole)

-- the remainder of a division, in hundredths of the divisor, rounded down
abbrev pub hundredths_left : (n by : ℕ) → ℕ
hundredths_left n by = n % by * 100 / by

-- a quotient with two decimals, rounded down, as `2.89`
unfoldable pub quotient_text : (n by : ℕ) → List ℕ
quotient_text n by =
    decimal (n / by)
    ++ (codes "." ++ (decimal (hundredths_left n by / 10) ++ decimal (hundredths_left n by % 10)))

-- the mean of this many numbers with this sum; the mean of none is `0.00`
abbrev pub mean_text : (sum count : ℕ) → List ℕ
mean_text sum count = quotient_text sum (max count 1)

-- the name of net i of the problem
abbrev pub name_of : Netlist → RoutingProblem → ℕ → List ℕ
name_of netlist p i = (slice_index_or netlist.nets (net_in p.nets i).number no_net).name

-- the name, after a blank
unfoldable pub name_text : Netlist → RoutingProblem → ℕ → List ℕ
name_text netlist p i = codes " " ++ name_of netlist p i
