-- What words report of the widths of a plan, and that a report was written.
use Rattle.std.proofs.Common.{◌≡◌, ℕ, Bool, true, false, List, [], ◌++◌, Option, Some, None, Result, Ok, Err, MatchBool, refl, sym, ap}
use Rattle.std.proofs.lemmas.List.{append-nil}
use Rattle.rr_graph.specs.node.Mode.{Mode}
use Rattle.route_file.specs.Text.{text_of}
use Rattle.iteration.specs.declared.outcome.Outcome.{Outcome}
use Rattle.width_search.specs.declared.report.LeastWidth.{LeastWidth}
use Rattle.width_search.specs.Reports.{Report}
use Rattle.width_search.specs.Widths.{GoesUpward}
use Rattle.width_bound.specs.declared.figures.CutFigures.{CutFigures}
use Rattle.bound_run.specs.Bounds.{IsTrueOf, width_line}
use Rattle.run_inputs.specs.declared.fault.AppFault.{AppFault}
use Rattle.run_inputs.specs.declared.fault.AppFault.TheVariants.{Unwritten}
use Rattle.run_inputs.specs.Inputs.{PlacedNetlist, placed_problem}
use Rattle.run_inputs.specs.Runs.{TakesAll, TakesFront, TakesNothing, Writing}
use Rattle.runs.specs.Known.{first_possible, first_width, known_from}
use Rattle.runs.specs.WidthRun.{PrintsBoundOf, SaysSearch, SaysUpward, TriesAfter, WritesLeast, WritesReport, report_text}

-- ---- a search

module _ (comes_to : ℕ → Outcome → Type 0) (p : PlacedNetlist) (start below : ℕ) (shows_bound : Bool) (r : Report) (past : ℕ) (lesser : List ℕ) (after : TriesAfter comes_to start below r past lesser) where
  -- whose report was written
  pub search_said : (bound : List ℕ) → PrintsBoundOf shows_bound p r.trials past bound → SaysSearch comes_to p start below shows_bound true r (lesser ++ bound)
  search_said bound bounds = record { past = past; lesser = lesser; after = after; bound = bound; bounds = bounds; whole = refl }

  -- whose report was not written
  pub search_unwritten : SaysSearch comes_to p start below shows_bound false r lesser
  search_unwritten = record { past = past; lesser = lesser; after = after; bound = []; bounds = refl; whole = sym (append-nil lesser) }

-- ---- a search upward

module _ (p : PlacedNetlist) (start : ℕ) (r : Report) (c : CutFigures) (sound : IsTrueOf p c) (tried : GoesUpward (first_width start c) r.trials) where
  pub upward_said : SaysUpward p start true r (width_line c ++ known_from start (first_possible c) r.least)
  upward_said = record { figures = c; sound = sound; tried = tried; whole = refl }

  pub upward_unwritten : SaysUpward p start false r (width_line c)
  upward_unwritten = record { figures = c; sound = sound; tried = tried; whole = sym (append-nil (width_line c)) }

-- ---- what is written doesn't depend on the value that is answered

module _ {R S : Type 0} (value : R) (other : S) where
  printed_other : (F T : Type 0) (failed : Bool) → MatchBool failed (◌≡◌ {A = Result R AppFault} (Ok value) (Err Unwritten) × F) (◌≡◌ {A = Result R AppFault} (Ok value) (Ok value) × T)
      → MatchBool failed (◌≡◌ {A = Result S AppFault} (Ok other) (Err Unwritten) × F) (◌≡◌ {A = Result S AppFault} (Ok other) (Ok other) × T)
  printed_other F T true p = let clash = p.0 in absurd cc
  printed_other F T false p = (refl, p.1)

  found_other : (F G H A T : Type 0) (failed route_failed : Bool)
      → MatchBool failed (◌≡◌ {A = Result R AppFault} (Ok value) (Err Unwritten) × F × G)
      (A × MatchBool route_failed (◌≡◌ {A = Result R AppFault} (Ok value) (Err Unwritten) × H) (◌≡◌ {A = Result R AppFault} (Ok value) (Ok value) × T))
      → MatchBool failed (◌≡◌ {A = Result S AppFault} (Ok other) (Err Unwritten) × F × G)
      (A × MatchBool route_failed (◌≡◌ {A = Result S AppFault} (Ok other) (Err Unwritten) × H) (◌≡◌ {A = Result S AppFault} (Ok other) (Ok other) × T))
  found_other F G H A T true route_failed p = let clash = p.0 in absurd cc
  found_other F G H A T false route_failed p = (p.0, printed_other H T route_failed p.1)

  module _ (route out : Writing) (mode : Mode) (p : PlacedNetlist) (lines : List ℕ) where
    least_other : (least : Option LeastWidth) → WritesLeast route out mode p lines least value (Ok value) → WritesLeast route out mode p lines least other (Ok other)
    least_other (Some least) w =
        let text = text_of p.netlist p.placement (placed_problem mode p least.width) least.routing in
        found_other (TakesFront out lines) (TakesNothing route) (TakesFront route text) (TakesAll out lines) (TakesAll route text) out.failed route.failed w
    least_other None w = (printed_other (TakesFront out lines) (TakesAll out lines) out.failed w.0, w.1)

  pub report_other : (route out : Writing) (mode : Mode) (p : PlacedNetlist) (r : Report) → WritesReport route out mode p r value (Ok value) → WritesReport route out mode p r other (Ok other)
  report_other route out mode p r w = least_other route out mode p (report_text r) r.least w

  -- where it isn't written
  module _ (f : AppFault) where
    fault_is : ◌≡◌ {A = Result R AppFault} (Err f) (Err Unwritten) → ◌≡◌ {A = Result S AppFault} (Err f) (Err Unwritten)
    fault_is e = let is : f ≡ Unwritten = cc in ap Err is

    failed_other : (F T : Type 0) (failed : Bool) → MatchBool failed (◌≡◌ {A = Result R AppFault} (Err f) (Err Unwritten) × F) (◌≡◌ {A = Result R AppFault} (Err f) (Ok value) × T)
        → MatchBool failed (◌≡◌ {A = Result S AppFault} (Err f) (Err Unwritten) × F) (◌≡◌ {A = Result S AppFault} (Err f) (Ok other) × T)
    failed_other F T true p = (fault_is p.0, p.1)
    failed_other F T false p = let clash = p.0 in absurd cc

    unfound_other : (F G H A T : Type 0) (failed route_failed : Bool)
        → MatchBool failed (◌≡◌ {A = Result R AppFault} (Err f) (Err Unwritten) × F × G)
        (A × MatchBool route_failed (◌≡◌ {A = Result R AppFault} (Err f) (Err Unwritten) × H) (◌≡◌ {A = Result R AppFault} (Err f) (Ok value) × T))
        → MatchBool failed (◌≡◌ {A = Result S AppFault} (Err f) (Err Unwritten) × F × G)
        (A × MatchBool route_failed (◌≡◌ {A = Result S AppFault} (Err f) (Err Unwritten) × H) (◌≡◌ {A = Result S AppFault} (Err f) (Ok other) × T))
    unfound_other F G H A T true route_failed p = (fault_is p.0, p.1, p.2)
    unfound_other F G H A T false route_failed p = (p.0, failed_other H T route_failed p.1)

    module _ (route out : Writing) (mode : Mode) (p : PlacedNetlist) (lines : List ℕ) where
      least_failed : (least : Option LeastWidth) → WritesLeast route out mode p lines least value (Err f) → WritesLeast route out mode p lines least other (Err f)
      least_failed (Some least) w =
          let text = text_of p.netlist p.placement (placed_problem mode p least.width) least.routing in
          unfound_other (TakesFront out lines) (TakesNothing route) (TakesFront route text) (TakesAll out lines) (TakesAll route text) out.failed route.failed w
      least_failed None w = (failed_other (TakesFront out lines) (TakesAll out lines) out.failed w.0, w.1)

    pub report_failed : (route out : Writing) (mode : Mode) (p : PlacedNetlist) (r : Report) → WritesReport route out mode p r value (Err f) → WritesReport route out mode p r other (Err f)
    report_failed route out mode p r w = least_failed route out mode p (report_text r) r.least w
