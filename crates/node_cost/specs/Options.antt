-- What a user chooses of the negotiation (VPR and T-VPack manual 4.30, "Router Options"), and the
-- present-congestion factors that follow from it.
use Rattle.std.specs.Prelude.{ℕ, ◌-◌, ◌*◌, ◌/◌, ◌≤◌, zero, suc, Bool, false, ◌&&◌, nat_le, not, min, if◌then◌else◌, Result, Ok, Err}
use Rattle.node_cost.specs.declared.settings.Range.{Range}
use Rattle.node_cost.specs.declared.settings.Range.TheVariants.{First, Init, Mult, Acc, Bb, Iterations}
use Rattle.node_cost.specs.Costs.{unit_factor}
use Rattle.node_cost.specs.declared.entry_cost.TheConstants.{GREATEST_PRESENT}
use Rattle.node_cost.specs.declared.standard.TheConstants.{FIRST, INIT, MULT, ACC, BB, ITERATIONS}
use Rattle.node_cost.specs.declared.settings.TheConstants.{MOST_MULT, MOST_ACC, MOST_BB, MOST_ITERATIONS, MOST_WORKERS}

pub record RouterOptions : Type 0 where
  -- the present-congestion factor of the first iteration, and of the second
  pub first : ℕ
  pub init : ℕ
  -- by how many sixteenths it is multiplied from then on: 16 keeps it
  pub mult : ℕ
  -- how much a history grows for each net of overuse
  pub acc : ℕ
  -- how far from its terminals a net may be routed
  pub bb : ℕ
  -- the most iterations
  pub iterations : ℕ
  -- whether a net keeps to the tree that it has where other ways cost the same: each tree that
  -- results is as good, so that no other definition names it
  pub steady : Bool

-- the greatest present-congestion factor, in sixteenths
abbrev pub greatest_present : ℕ
greatest_present = GREATEST_PRESENT

-- the greatest multiplier
abbrev pub most_mult : ℕ
most_mult = MOST_MULT

-- the most iterations of a negotiation, and the most workers of one (this project's profile)
abbrev pub most_iterations : ℕ
most_iterations = MOST_ITERATIONS

abbrev pub most_workers : ℕ
most_workers = MOST_WORKERS

-- the factor of the next iteration
abbrev pub next_present : (mult present : ℕ) → ℕ
next_present mult present = min greatest_present (present * mult / unit_factor)

-- the factor n iterations later
abbrev pub present_after : (mult : ℕ) → ℕ → (present : ℕ) → ℕ
present_after mult zero present = present
present_after mult (suc n) present = next_present mult (present_after mult n present)

-- the present-congestion factor of iteration k, counted from 1
unfoldable pub present_of : RouterOptions → ℕ → ℕ
present_of o k = if nat_le k 1 then o.first else present_after o.mult (k - 2) o.init

abbrev pub is_within : (least greatest : ℕ) → ℕ → Bool
is_within least greatest n = nat_le least n && nat_le n greatest

-- these options, or the first of them that is out of range
unfoldable pub options_within : RouterOptions → Result RouterOptions Range
options_within o =
    if not (is_within 0 greatest_present o.first) then Err First
    else (if not (is_within 0 greatest_present o.init) then Err Init
    else (if not (is_within unit_factor most_mult o.mult) then Err Mult
    else (if not (is_within 0 MOST_ACC o.acc) then Err Acc
    else (if not (is_within 1 MOST_BB o.bb) then Err Bb
    else (if not (is_within 1 most_iterations o.iterations) then Err Iterations else Ok o)))))

-- the default options
abbrev pub standard_options : RouterOptions
standard_options = record { first = FIRST; init = INIT; mult = MULT; acc = ACC; bb = BB; iterations = ITERATIONS; steady = false }

-- the same options, but for whether a net keeps to its tree
abbrev pub with_steady : RouterOptions → Bool → RouterOptions
with_steady o steady = record o { steady = steady }

-- what all settings keep
pub record AreWithinLimits (o : RouterOptions) : Type 0 where
  pub first : o.first ≤ greatest_present
  pub init : o.init ≤ greatest_present
  pub mult_least : unit_factor ≤ o.mult
  pub mult : o.mult ≤ most_mult
  pub acc : o.acc ≤ MOST_ACC
  pub bb_least : 1 ≤ o.bb
  pub bb : o.bb ≤ MOST_BB
  pub iterations_least : 1 ≤ o.iterations
  pub iterations : o.iterations ≤ most_iterations
