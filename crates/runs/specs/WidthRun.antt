-- What a run of `width` answers, writes and prints (ours).
use Rattle.std.specs.Prelude.{◌≡◌, ℕ, ◌<◌, ◌≤◌, ◌⊎◌, Bool, true, false, ◌&&◌, if◌then◌else◌, List, [], ◌++◌, codes, decimal, Option, None, Some, Result, Ok, Err, MatchBool}
use Rattle.std.specs.List.{flat_map}
use Rattle.rr_graph.specs.node.Mode.{Mode}
use Rattle.rr_graph.specs.Fabric.{most_tracks}
use Rattle.route_tree.specs.Usage.{Lists}
use Rattle.route_check.specs.Routed.{IsRouted}
use Rattle.node_cost.specs.Options.{RouterOptions}
use Rattle.route_file.specs.Text.{text_of}
use Rattle.net_workers.specs.Schedules.{TurnRule}
use Rattle.iteration.specs.declared.outcome.Outcome.{Outcome}
use Rattle.width_search.specs.declared.report.LeastWidth.{LeastWidth}
use Rattle.width_search.specs.declared.trial.Trial.{Trial}
use Rattle.width_search.specs.Reports.{EndsUpward, IsVerifiedReport, IsWidthReport, Negotiates, Report}
use Rattle.width_search.specs.Widths.{GoesUpward, next_upward, next_width}
use Rattle.width_bound.specs.declared.figures.CutFigures.{CutFigures}
use Rattle.bound_run.specs.Bounds.{IsTrueOf, width_line}
use Rattle.run_inputs.specs.declared.fault.AppFault.{AppFault}
use Rattle.run_inputs.specs.declared.fault.AppFault.TheVariants.{Unwritten}
use Rattle.run_inputs.specs.Inputs.{PlacedNetlist, placed_problem}
use Rattle.runs.specs.LesserWidths.{TriesBelow}
use Rattle.runs.specs.Known.{first_possible, first_width, known_from}
use Rattle.runs.specs.Untried.{untried_line}
use Rattle.runs.specs.declared.plan.WidthPlan.{WidthPlan}
use Rattle.runs.specs.declared.plan.WidthPlan.TheVariants.{Search, Upward}
use Rattle.run_inputs.specs.Runs.{StopsOrGoesOn, PrintsText, TakesAll, TakesFront, TakesNothing, Writing}

-- ---- the lines of a search

abbrev pub trial_end : Bool → List ℕ
trial_end routed = if routed then codes ": routed\n" else codes ": not routed\n"

-- as `width 12: routed` or `width 6: not routed`
unfoldable pub trial_line : Trial → List ℕ
trial_line t = codes "width " ++ (decimal t.width ++ trial_end t.routed)

-- as `least routed width: 9`
unfoldable pub found_line : (width : ℕ) → List ℕ
found_line width = codes "least routed width: " ++ (decimal width ++ codes "\n")

abbrev pub least_line : Option LeastWidth → List ℕ
least_line (Some least) = found_line least.width
least_line None = codes "no routed width\n"

-- a line for each trial, and one for the least width that was routed
abbrev pub report_text : Report → List ℕ
report_text r = flat_map trial_line r.trials ++ least_line r.least

-- the exit status of a search: 0 if a width was routed, 3 if none was
abbrev pub status_of_least : Option LeastWidth → ℕ
status_of_least (Some least) = 0
status_of_least None = 3

abbrev pub status_of_report : Report → ℕ
status_of_report r = status_of_least r.least

-- ---- what is written

-- The lines are printed to `out`, and then the text is written to `route`. Unwritten is answered if
-- either failed; if `out` failed, `route` took nothing.
abbrev pub WritesFound : {R : Type 0} → (route out : Writing) → (lines text : List ℕ) → R → Result R AppFault → Type 0
WritesFound route out lines text value result =
    MatchBool out.failed
    ((result ≡ Err Unwritten) × TakesFront out lines × TakesNothing route)
    (TakesAll out lines × PrintsText route text value result)

-- The text of the routing of the least width is written after the lines; if there is none, `route`
-- took nothing.
abbrev pub WritesLeast : {R : Type 0} → (route out : Writing) → Mode → PlacedNetlist → (lines : List ℕ) → Option LeastWidth → R → Result R AppFault → Type 0
WritesLeast route out mode p lines (Some least) value result =
    WritesFound route out lines (text_of p.netlist p.placement (placed_problem mode p least.width) least.routing) value result
WritesLeast route out mode p lines None value result = PrintsText out lines value result × TakesNothing route

-- The lines of a report are printed to `out`, and then the routing of the least width is written to
-- `route`.
abbrev pub WritesReport : {R : Type 0} → (route out : Writing) → Mode → PlacedNetlist → Report → R → Result R AppFault → Type 0
WritesReport route out mode p r value result = WritesLeast route out mode p (report_text r) r.least value result

-- the routing of the least width, if there is one, is in its place
abbrev pub PlacesLeast : (is_placed : Bool) → Option LeastWidth → Type 0
PlacesLeast is_placed (Some least) = is_placed ≡ true
PlacesLeast is_placed None = Unit {0}

-- ---- which widths are tried

-- the start of a plan
abbrev pub start_of : WidthPlan → ℕ
start_of (Search start below shows_bound) = start
start_of (Upward start) = start

-- no routing of the placed netlist is legal at a width from `low` on and below `high`, in either
-- mode
abbrev pub HasNoRouting : PlacedNetlist → (low high : ℕ) → Type 0
HasNoRouting p low high =
    (mode : Mode) (width : ℕ) (lists : Lists) → low ≤ width → width < high → width ≤ most_tracks
    → ¬ IsRouted (placed_problem mode p width) lists

-- the widths were tried upward, and no width from the start on that was left out has a routing
pub record IsUpwardReport (comes_to : ℕ → Outcome → Type 0) (p : PlacedNetlist) (start : ℕ) (r : Report) : Type 0 where
  pub first : ℕ
  pub after_start : start ≤ first
  -- no width is left out that may have a routing
  pub none_below : HasNoRouting p start first
  -- the report is that of a search upward from the first width on
  pub searched : IsWidthReport comes_to (next_upward first) r
  -- trial i is of the width first + i, and each trial but the last was not routed
  pub upward : GoesUpward first r.trials
  -- the routing is that of the last trial; there is none if no width is left
  pub ends : EndsUpward first r.trials r.least

-- the report is that of the plan
abbrev pub IsPlanned : RouterOptions → (workers : ℕ) → TurnRule → Mode → PlacedNetlist → WidthPlan → Report → Type 0
IsPlanned o workers allows mode p (Search start below shows_bound) r = IsVerifiedReport (Negotiates (placed_problem mode p) o workers allows) start below r
IsPlanned o workers allows mode p (Upward start) r = IsUpwardReport (Negotiates (placed_problem mode p) o workers allows) p start r

-- ---- words on the widths

-- the sink took all of the text; or it has failed, and took a front of it
abbrev pub TakesText : Writing → (text : List ℕ) → Type 0
TakesText w text = MatchBool w.failed (TakesFront w text) (TakesAll w text)

-- the lesser widths after a search, and what is printed for them
pub record TriesAfter (comes_to : ℕ → Outcome → Type 0) (start below : ℕ) (r : Report) (past : ℕ) (text : List ℕ) : Type 0 where
  -- the report before them is that of the search
  pub search : Report
  pub searched : IsWidthReport comes_to (next_width start) search
  pub tries : TriesBelow comes_to below search r past text search.least

-- below which width there is no routing, and which widths from there on, less than `past`, were
-- left out
abbrev pub bound_text : List Trial → (past : ℕ) → CutFigures → List ℕ
bound_text trials past c = width_line c ++ untried_line trials (first_possible c) past

-- A bound that holds for the placed netlist is printed, if that is wanted; or nothing, if memory
-- runs out.
abbrev pub PrintsBoundOf : (is_wanted : Bool) → PlacedNetlist → List Trial → (past : ℕ) → (text : List ℕ) → Type 0
PrintsBoundOf is_wanted p trials past text =
    MatchBool is_wanted ((text ≡ []) ⊎ ((c : CutFigures) × IsTrueOf p c × (text ≡ bound_text trials past c))) (text ≡ [])

-- the words of a search: those on lesser widths, and after the report was written those on a bound
pub record SaysSearch (comes_to : ℕ → Outcome → Type 0) (p : PlacedNetlist) (start below : ℕ) (shows_bound is_written : Bool) (r : Report) (text : List ℕ) : Type 0 where
  pub past : ℕ
  pub lesser : List ℕ
  pub after : TriesAfter comes_to start below r past lesser
  pub bound : List ℕ
  pub bounds : PrintsBoundOf (is_written && shows_bound) p r.trials past bound
  pub whole : text ≡ lesser ++ bound

-- the line on the least width after a search upward
abbrev pub known_after : (is_written : Bool) → (start bound : ℕ) → Option LeastWidth → List ℕ
known_after is_written start bound least = if is_written then known_from start bound least else []

-- the words of a search upward: a bound that holds for the placed netlist, and after the report was
-- written what is known of the least width
pub record SaysUpward (p : PlacedNetlist) (start : ℕ) (is_written : Bool) (r : Report) (text : List ℕ) : Type 0 where
  pub figures : CutFigures
  pub sound : IsTrueOf p figures
  -- the widths from the bound or the start on were tried, whichever is greater
  pub tried : GoesUpward (first_width start figures) r.trials
  pub whole : text ≡ width_line figures ++ known_after is_written start (first_possible figures) r.least

abbrev pub SaysPlan : RouterOptions → (workers : ℕ) → TurnRule → Mode → PlacedNetlist → WidthPlan → (is_written : Bool) → Report → (text : List ℕ) → Type 0
SaysPlan o workers allows mode p (Search start below shows_bound) is_written r text = SaysSearch (Negotiates (placed_problem mode p) o workers allows) p start below shows_bound is_written r text
SaysPlan o workers allows mode p (Upward start) is_written r text = SaysUpward p start is_written r text

-- ---- a run

abbrev pub is_answered : {R : Type 0} → Result R AppFault → Bool
is_answered (Ok r) = true
is_answered (Err f) = false

-- The widths of a plan are tried for a placed netlist, the report is written, and a third sink
-- takes the words.
abbrev pub SearchesWidths : RouterOptions → (workers : ℕ) → TurnRule → WidthPlan → Mode → (route out words : Writing) → PlacedNetlist → Result Report AppFault → Type 0
SearchesWidths o workers allows plan mode route out words p result =
    (r : Report)
    × IsPlanned o workers allows mode p plan r
    × WritesReport route out mode p r r result
    × ((text : List ℕ) × SaysPlan o workers allows mode p plan (is_answered result) r text × TakesText words text)

abbrev pub TakeNothing : (route out words : Writing) → Type 0
TakeNothing route out words = TakesNothing route × TakesNothing out × TakesNothing words

-- A run of `width`, free faults aside: if its files have a fault, no sink takes anything; if they
-- say a placed netlist, the widths of the plan are tried for it, and the report is written.
abbrev pub RunsWidth : RouterOptions → (workers : ℕ) → TurnRule → WidthPlan → Mode → (route out words : Writing) → Result PlacedNetlist AppFault → Result Report AppFault → Type 0
RunsWidth o workers allows plan mode route out words = StopsOrGoesOn (TakeNothing route out words) (SearchesWidths o workers allows plan mode route out words)
