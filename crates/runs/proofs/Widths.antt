-- What comes of printing the lines of a search and writing the routing that it found.
use Rattle.std.proofs.Common.{◌≡◌, ℕ, ◌<◌, Bool, true, false, List, length, Option, Some, None, Result, Err, subst, arith, length-append}
use Rattle.rr_graph.specs.Problems.{RoutingProblem}
use Rattle.rr_graph.specs.node.Mode.{Mode}
use Rattle.node_cost.specs.Options.{RouterOptions}
use Rattle.net_workers.specs.Schedules.{TurnRule}
use Rattle.width_search.specs.declared.report.LeastWidth.{LeastWidth}
use Rattle.width_search.specs.declared.trial.Trial.{Trial}
use Rattle.rr_graph.specs.Designs.{problem_with}
use Rattle.width_search.specs.Reports.{IsOfLeastWidth, IsWidthReport, Negotiates, Report}
use Rattle.route_file.specs.Text.{text_of}
use Rattle.run_inputs.specs.declared.fault.InputFile.TheVariants as file
use Rattle.run_inputs.specs.declared.fault.AppFault.{AppFault}
use Rattle.run_inputs.specs.Faults.{ends_free}
use Rattle.run_inputs.specs.Inputs.{PlacedNetlist, ends_before, placed_problem}
use Rattle.run_inputs.specs.Runs.{PrintsText, TakesAll, TakesFront, TakesNothing, Writing, writing}
use Rattle.runs.specs.WidthRun.{WritesFound, WritesLeast, WritesReport, found_line, least_line, report_text}
use Rattle.runs.specs.kept.Routing.{RoutesLeast}
use Rattle.runs.proofs.Writing.{success_bound, success_late}

-- the lines of a search aren't empty
least_filled : (least : Option LeastWidth) → 0 < length (least_line least)
unfolding found_line
least_filled (Some least) = simp length-append (omega arith)
least_filled None = omega arith

pub report_filled : (r : Report) → 0 < length (report_text r)
report_filled r = let filled = least_filled r.least in simp length-append (omega (arith, filled))

-- the routing of the least width routes its problem
routes_found : (mode : Mode) (p : PlacedNetlist) (o : RouterOptions) (workers : ℕ) (allows : TurnRule) (trials : List Trial) (least : Option LeastWidth)
    → IsOfLeastWidth (Negotiates (placed_problem mode p) o workers allows) trials least → RoutesLeast mode p least
routes_found mode p o workers allows trials (Some least) is = is.1.0.0
routes_found mode p o workers allows trials None is = tt

pub routes_least : (mode : Mode) (p : PlacedNetlist) (o : RouterOptions) (workers : ℕ) (allows : TurnRule) (r : Report)
    → IsOfLeastWidth (Negotiates (placed_problem mode p) o workers allows) r.trials r.least → RoutesLeast mode p r.least
routes_least mode p o workers allows r is = routes_found mode p o workers allows r.trials r.least is

-- the report of a search is one of a placed netlist whose architecture, netlist and placement were
-- looked up
pub report_placed : (mode : Mode) (o : RouterOptions) (workers : ℕ) (allows : TurnRule) (next : List Trial → Option ℕ) (r : Report) (p q : PlacedNetlist)
    → q.arch ≡ p.arch → q.netlist ≡ p.netlist → q.placement ≡ p.placement
    → IsWidthReport (Negotiates (placed_problem mode q) o workers allows) next r → IsWidthReport (Negotiates (placed_problem mode p) o workers allows) next r
report_placed mode o workers allows next r p q arch netlist placement is =
    subst (λ x. IsWidthReport (Negotiates (problem_with mode p.arch p.netlist x) o workers allows) next r) placement
    (subst (λ x. IsWidthReport (Negotiates (problem_with mode p.arch x q.placement) o workers allows) next r) netlist
    (subst (λ x. IsWidthReport (Negotiates (problem_with mode x q.netlist q.placement) o workers allows) next r) arch is))

-- ---- what is printed, and then written

module _ (lines text : List ℕ) (route : Writing) (before after : Option (List ℕ)) where
  -- lines that were not printed
  pub found_unprinted : (failed : Bool) (f : AppFault) → PrintsText (writing before after failed) lines (tt {0}) (Err f) → TakesNothing route
      → WritesFound route (writing before after failed) lines text (tt {0}) (Err f)
  found_unprinted true f p nothing = (p.0, p.1, nothing)
  found_unprinted false f p nothing = let clash = p.0 in absurd cc

-- the least width that was found is that of the report
pub report_written : {R : Type 0} (route out : Writing) (mode : Mode) (p : PlacedNetlist) (r : Report) (least : LeastWidth) (problem : RoutingProblem) (value : R) (result : Result R AppFault)
    → Some least ≡ r.least → problem ≡ placed_problem mode p least.width
    → WritesFound route out (report_text r) (text_of p.netlist p.placement problem least.routing) value result → WritesReport route out mode p r value result
report_written route out mode p r least problem value result is made w =
    subst (λ (l : Option LeastWidth). WritesLeast route out mode p (report_text r) l value result) is
    (subst (λ (q : RoutingProblem). WritesFound route out (report_text r) (text_of p.netlist p.placement q least.routing) value result) made w)

-- ---- what was printed, and then written, ends with a value or Unwritten

module _ {R : Type 0} (route out : Writing) (lines text : List ℕ) (value : R) (result : Result R AppFault) where
  pub found_bound : WritesFound route out lines text value result → ends_free result ≡ false
  found_bound w = success_bound (TakesFront out lines) (TakesNothing route) (TakesAll out lines) route text value result out.failed w

  pub found_late : WritesFound route out lines text value result → ends_before file.Route result ≡ false
  found_late w = success_late (TakesFront out lines) (TakesNothing route) (TakesAll out lines) route text value result out.failed w
