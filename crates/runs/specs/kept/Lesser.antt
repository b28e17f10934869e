-- The steps of trying lesser widths.
use Rattle.std.specs.Prelude.{◌≡◌, ℕ, ◌+◌, ◌-◌, ◌<◌, min, Bool, true, List, [], length, Option, Result, Ok, Err}
use Rattle.std.specs.List.{All, flat_map}
use Rattle.iteration.specs.declared.outcome.Outcome.{Outcome}
use Rattle.width_search.specs.Reports.{Report, is_success}
use Rattle.run_inputs.specs.declared.fault.AppFault.{AppFault}
use Rattle.run_inputs.specs.Faults.{is_free}
use Rattle.runs.specs.LesserWidths.{GoesDown, IsNegotiated, LesserTrial, last_routed, lesser_line, with_all_lesser, with_lesser}

abbrev pub lesser_trial : (width : ℕ) → Outcome → LesserTrial
lesser_trial width outcome = record { width = width; outcome = outcome }

-- a success at a width is added to the report; a free fault leaves it as it was
abbrev pub AddsSuccess : (width : ℕ) → Outcome → (old new : Report) → Result Bool AppFault → Type 0
AddsSuccess width outcome old new (Ok routed) = (routed ≡ is_success outcome) × (new ≡ with_lesser old (lesser_trial width outcome))
AddsSuccess width outcome old new (Err f) = (is_free f ≡ true) × (new ≡ old)

-- a width was negotiated, a success was added, and the line was printed; or nothing happened
abbrev pub TriesWidth : (comes_to : ℕ → Outcome → Type 0) → (width : ℕ) → (old new : Report) → (prints : List ℕ → Type 0) → Result Bool AppFault → Type 0
TriesWidth comes_to width old new prints (Ok routed) =
    (outcome : Outcome)
    × comes_to width outcome
    × (routed ≡ is_success outcome)
    × (new ≡ with_lesser old (lesser_trial width outcome))
    × prints (lesser_line (lesser_trial width outcome))
TriesWidth comes_to width old new prints (Err f) = (is_free f ≡ true) × (new ≡ old) × prints []

-- these lesser widths were tried
pub record HaveTried (comes_to : ℕ → Outcome → Type 0) (found : ℕ) (old new : Report) (past : ℕ) (prints : List ℕ → Type 0) (tried : List LesserTrial) : Type 0 where
  pub down : GoesDown found tried
  pub negotiated : All (IsNegotiated comes_to) tried
  pub adds : new ≡ with_all_lesser old tried
  pub reached : past + length tried ≡ found
  pub printed : prints (flat_map lesser_line tried)

-- the widths before this step were tried
pub record IsTrying (comes_to : ℕ → Outcome → Type 0) (found step : ℕ) (old new : Report) (past : ℕ) (prints : List ℕ → Type 0) (routed : Option ℕ) : Type 0 where
  pub tried : List LesserTrial
  pub have : HaveTried comes_to found old new past prints tried
  pub count : length tried + 1 ≡ step
  pub last : routed ≡ last_routed tried

-- all of them were tried, or a free fault came before
abbrev pub TriesAll : (comes_to : ℕ → Outcome → Type 0) → (found below : ℕ) → (old new : Report) → (past : ℕ) → (prints : List ℕ → Type 0) → Result (Option ℕ) AppFault → Type 0
TriesAll comes_to found below old new past prints (Ok routed) =
    (tried : List LesserTrial)
    × HaveTried comes_to found old new past prints tried
    × (length tried ≡ min below (found - 1))
    × (routed ≡ last_routed tried)
TriesAll comes_to found below old new past prints (Err f) =
    (tried : List LesserTrial) × HaveTried comes_to found old new past prints tried × (length tried < min below (found - 1)) × (is_free f ≡ true)
