-- What comes of writing a routing and printing the line of an outcome.
use Rattle.std.proofs.Common.{◌≡◌, ◌≢◌, ℕ, ◌<◌, Bool, true, false, MatchBool, List, length, Option, Result, Ok, Err, IfOk, refl, sym, ap, subst, ◌∙◌, arith, length-append}
use Rattle.std.proofs.lemmas.Bool.{false≢true}
use Rattle.route_file.specs.Text.{text_of}
use Rattle.route_tree.specs.Usage.{Lists}
use Rattle.rr_graph.specs.Problems.{RoutingProblem}
use Rattle.node_cost.specs.Options.{RouterOptions}
use Rattle.iteration.specs.declared.outcome.Outcome.{Outcome}
use Rattle.iteration.specs.declared.outcome.Outcome.TheVariants.{Success, NotRouted}
use Rattle.iteration.specs.Outcomes.{IsOutcome}
use Rattle.run_inputs.specs.declared.fault.InputFile.TheVariants as file
use Rattle.run_inputs.specs.declared.fault.AppFault.{AppFault}
use Rattle.run_inputs.specs.declared.fault.AppFault.TheVariants.{Arch, Net, Place, Route, Unread, Unwritten, Memory, NoThread, Astray}
use Rattle.run_inputs.specs.Faults.{ends_free, is_free}
use Rattle.run_inputs.specs.Inputs.{PlacedDesign, ends_before}
use Rattle.run_inputs.specs.Runs.{PrintsText, TakesAll, TakesFront, TakesNothing, Writing, writing}
use Rattle.runs.specs.RouteRun.{WritesOutcome, WritesSuccess, left_text, outcome_text, routed_text}
use Rattle.runs.specs.kept.Routing.{RoutesProblem}

-- a line isn't empty
pub outcome_filled : (o : Outcome) → 0 < length (outcome_text o)
unfolding routed_text left_text
outcome_filled (Success lists iterations) = simp length-append (omega arith)
outcome_filled (NotRouted unrouted overused iterations) = simp length-append (omega arith)

-- ---- what is printed or written ends with a value or Unwritten

module _ {R : Type 0} (F T : Type 0) (value : R) (result : Result R AppFault) where
  prints_bound : (failed : Bool) → MatchBool failed ((result ≡ Err Unwritten) × F) ((result ≡ Ok value) × T) → ends_free result ≡ false
  prints_bound true p = ap ends_free p.0
  prints_bound false p = ap ends_free p.0

  prints_late : (failed : Bool) → MatchBool failed ((result ≡ Err Unwritten) × F) ((result ≡ Ok value) × T) → ends_before file.Route result ≡ false
  prints_late true p = ap (ends_before file.Route) p.0
  prints_late false p = ap (ends_before file.Route) p.0

module _ {R : Type 0} (F G T : Type 0) (out : Writing) (text : List ℕ) (value : R) (result : Result R AppFault) where
  pub success_bound : (failed : Bool) → MatchBool failed ((result ≡ Err Unwritten) × F × G) (T × PrintsText out text value result) → ends_free result ≡ false
  success_bound true p = ap ends_free p.0
  success_bound false p = prints_bound (TakesFront out text) (TakesAll out text) value result out.failed p.1

  pub success_late : (failed : Bool) → MatchBool failed ((result ≡ Err Unwritten) × F × G) (T × PrintsText out text value result) → ends_before file.Route result ≡ false
  success_late true p = ap (ends_before file.Route) p.0
  success_late false p = prints_late (TakesFront out text) (TakesAll out text) value result out.failed p.1

module _ (route out : Writing) (d : PlacedDesign) (result : Result Outcome AppFault) where
  pub written_bound : (o : Outcome) → WritesOutcome route out d o result → ends_free result ≡ false
  written_bound (Success lists iterations) w =
      let text = text_of d.netlist d.placement d.problem lists in
      success_bound (TakesFront route text) (TakesNothing out) (TakesAll route text) out (routed_text iterations) (Success lists iterations) result route.failed w
  written_bound (NotRouted unrouted overused iterations) w =
      let line = left_text unrouted overused iterations in
      prints_bound (TakesFront out line) (TakesAll out line) (NotRouted unrouted overused iterations) result out.failed w.1

  pub written_late : (o : Outcome) → WritesOutcome route out d o result → ends_before file.Route result ≡ false
  written_late (Success lists iterations) w =
      let text = text_of d.netlist d.placement d.problem lists in
      success_late (TakesFront route text) (TakesNothing out) (TakesAll route text) out (routed_text iterations) (Success lists iterations) result route.failed w
  written_late (NotRouted unrouted overused iterations) w =
      let line = left_text unrouted overused iterations in
      prints_late (TakesFront out line) (TakesAll out line) (NotRouted unrouted overused iterations) result out.failed w.1

-- ---- a success

unwritten_is : (f : AppFault) → ◌≡◌ {A = Result (Unit {0}) AppFault} (Err f) (Err Unwritten) → f ≡ Unwritten
unwritten_is f e = cc

module _ (out : Writing) (d : PlacedDesign) (lists : Lists) (iterations : ℕ) where
  -- whose routing wasn't written
  pub success_unwritten : (before after : Option (List ℕ)) (failed : Bool) (f : AppFault)
      → PrintsText (writing before after failed) (text_of d.netlist d.placement d.problem lists) (tt {0}) (Err f)
      → TakesNothing out → WritesSuccess (writing before after failed) out d lists iterations (Err f)
  success_unwritten before after true f p nothing = (ap Err (unwritten_is f p.0), p.1, nothing)
  success_unwritten before after false f p nothing = let clash = p.0 in absurd cc

  -- whose routing was written
  pub success_written : (before after : Option (List ℕ)) (failed : Bool) (result : Result Outcome AppFault)
      → PrintsText (writing before after failed) (text_of d.netlist d.placement d.problem lists) (tt {0}) (Ok (tt {0}))
      → PrintsText out (routed_text iterations) (Success lists iterations) result
      → WritesSuccess (writing before after failed) out d lists iterations result
  success_written before after true result p line = let clash = p.0 in absurd cc
  success_written before after false result p line = (p.1, line)

-- a success of a negotiation routes the problem
pub routes_problem : (p : RoutingProblem) (options : RouterOptions) (o : Outcome) → IsOutcome p options o → RoutesProblem p o
routes_problem p options (Success lists iterations) is = is.0
routes_problem p options (NotRouted unrouted overused iterations) is = tt

-- ---- free faults

-- a free fault is in no file
pub free_late : (f : AppFault) → is_free f ≡ true → ends_before {R = Outcome} file.Route (Err f) ≡ false
free_late Memory e = refl
free_late NoThread e = refl
free_late Astray e = refl
free_late (Arch f) e = absurd (false≢true e)
free_late (Net f) e = absurd (false≢true e)
free_late (Place f) e = absurd (false≢true e)
free_late (Route f) e = absurd (false≢true e)
free_late (Unread at) e = absurd (false≢true e)
free_late Unwritten e = absurd (false≢true e)

-- one that isn't is no want of memory
pub not_memory : (f : AppFault) → is_free f ≡ false → f ≢ Memory
not_memory f e same = false≢true (sym e ∙ ap is_free same)

-- ---- what holds of a value holds of what printing it answers

module _ {R : Type 0} (P : R → Type 0) (F T : Type 0) (value : R) (result : Result R AppFault) where
  pub printed_so : (failed : Bool) → MatchBool failed ((result ≡ Err Unwritten) × F) ((result ≡ Ok value) × T) → P value → IfOk result P
  printed_so true p holds = subst (λ (r : Result R AppFault). IfOk r P) (sym p.0) tt
  printed_so false p holds = subst (λ (r : Result R AppFault). IfOk r P) (sym p.0) holds
