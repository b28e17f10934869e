-- Lesser widths after a search, and widths upward.
use Rattle.std.proofs.Common.{◌≡◌, ℕ, ◌+◌, ◌<◌, ◌≤◌, min, max, nat_lt, ◌||◌, Bool, true, false, if◌then◌else◌, List, Ok, refl, sym, subst, arith}
use Rattle.std.proofs.lemmas.Bool.Decides.{nat_tests}
use Rattle.iteration.specs.declared.outcome.Outcome.{Outcome}
use Rattle.width_search.specs.Reports.{EndsUpward, IsVerifiedReport, IsWidthReport, Report, is_success, with_trial}
use Rattle.width_search.specs.Widths.{GoesUpward, next_upward}
use Rattle.width_search.specs.kept.Verifying.{IsVerifying}
use Rattle.width_search.proofs.Verifying.{verifying_more, verifying_past}
use Rattle.width_bound.specs.declared.figures.CutFigures.{CutFigures}
use Rattle.bound_run.specs.Bounds.{IsTrueOf, has_no_way, is_ruled_out, printed_width}
use Rattle.run_inputs.specs.Inputs.{PlacedNetlist}
use Rattle.runs.specs.WidthRun.{HasNoRouting, IsUpwardReport}
use Rattle.runs.specs.Known.{first_possible, first_width}
use Rattle.runs.specs.kept.Lesser.{TriesWidth}

-- ---- lesser widths

-- one more lesser width that was tried
step_taken : (comes_to : ℕ → Outcome → Type 0) (start count width step w : ℕ) (old new : Report) (outcome : Outcome) (success : Bool) → success ≡ is_success outcome
    → 1 ≤ step → step ≤ count → w + step ≡ width → comes_to w outcome → new ≡ (if success then with_trial old w outcome else old)
    → IsVerifying comes_to start count width step old → IsVerifying comes_to start count width (step + 1) new
step_taken comes_to start count width step w old new outcome true success low high here came is was =
    subst (IsVerifying comes_to start count width (step + 1)) (sym is)
    (verifying_more comes_to start count width step w old was low high here outcome came (sym success))
step_taken comes_to start count width step w old new outcome false success low high here came is was = subst (IsVerifying comes_to start count width (step + 1)) (sym is) (verifying_past comes_to start count was)

pub lesser_step : (comes_to : ℕ → Outcome → Type 0) (start count width step w : ℕ) (old new : Report) (prints : List ℕ → Type 0) (routed : Bool) → 1 ≤ step → step ≤ count → w + step ≡ width
    → TriesWidth comes_to w old new prints (Ok routed) → IsVerifying comes_to start count width step old → IsVerifying comes_to start count width (step + 1) new
lesser_step comes_to start count width step w old new prints routed low high here tries was =
    step_taken comes_to start count width step w old new tries.0 (is_success tries.0) refl low high here tries.1 tries.3 was

pub lesser_step_failed : (comes_to : ℕ → Outcome → Type 0) (start count width step : ℕ) (old new : Report) → new ≡ old → IsVerifying comes_to start count width step old → IsVerifiedReport comes_to start count new
lesser_step_failed comes_to start count width step old new same was = subst (IsVerifiedReport comes_to start count) (sym same) was.verified

-- ---- widths upward

ruled_by : (b : Bool) (printed width : ℕ) → width < (if b then 257 else min printed 257) → (b || nat_lt width printed) ≡ true
ruled_by true printed width less = refl
ruled_by false printed width less = grind (arith, nat_tests, less)

-- a width that is less than the first possible one is ruled out
ruled_out : (c : CutFigures) (width : ℕ) → width < first_possible c → is_ruled_out c width ≡ true
ruled_out c width less = ruled_by (has_no_way c) (printed_width c) width less

less_than : (start possible width : ℕ) → start ≤ width → width < max start possible → width < possible
less_than start possible width low high = grind (arith, low, high)

none_below : (p : PlacedNetlist) (start : ℕ) (c : CutFigures) → 1 ≤ start → IsTrueOf p c → HasNoRouting p start (first_width start c)
none_below p start c is_start sound mode width lists low high most =
    sound mode width lists (omega (arith, is_start, low)) most (ruled_out c width (less_than start (first_possible c) width low high))

pub after_start : (start possible : ℕ) → start ≤ max start possible
after_start start possible = grind arith

-- a report of a search upward from the first width on
pub upward_planned : (comes_to : ℕ → Outcome → Type 0) (p : PlacedNetlist) (start first : ℕ) (c : CutFigures) (r : Report) → 1 ≤ start → first ≡ first_width start c → IsTrueOf p c
    → IsWidthReport comes_to (next_upward first) r → GoesUpward first r.trials → EndsUpward first r.trials r.least → IsUpwardReport comes_to p start r
upward_planned comes_to p start first c r is_start is sound searched upward ends = record {
  first = first;
  after_start = subst (λ n. start ≤ n) (sym is) (after_start start (first_possible c));
  none_below = subst (HasNoRouting p start) (sym is) (none_below p start c is_start sound);
  searched = searched;
  upward = upward;
  ends = ends;
}
