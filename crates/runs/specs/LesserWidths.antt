-- Widths below the least that a search found: which are tried, what is printed for each, and how
-- the report changes (ours).
use Rattle.std.specs.Prelude.{◌≡◌, ℕ, ◌+◌, ◌-◌, ◌<◌, ◌==◌, ◌⊎◌, min, true, if◌then◌else◌, List, [], ◌++◌, length, slice_get, codes, decimal, Option, None, Some, MatchBool}
use Rattle.std.specs.List.{All, flat_map, fold}
use Rattle.rr_graph.specs.Fabric.{most_tracks}
use Rattle.iteration.specs.declared.outcome.Outcome.{Outcome}
use Rattle.width_search.specs.declared.report.LeastWidth.{LeastWidth}
use Rattle.width_search.specs.Reports.{Report, is_success, with_trial}
use Rattle.run_inputs.specs.declared.fault.AppFault.{AppFault}
use Rattle.run_inputs.specs.Faults.{fault_text, is_free}
use Rattle.runs.specs.RouteRun.{outcome_text}

-- a width, and the outcome of its negotiation
pub record LesserTrial : Type 0 where
  pub width : ℕ
  pub outcome : Outcome

-- ---- what is printed

-- as `width 3: not routed: unrouted 0, overused 36, iterations 30`
unfoldable pub width_text : (width : ℕ) → (outcome : List ℕ) → List ℕ
width_text width outcome = codes "width " ++ (decimal width ++ (codes ": " ++ outcome))

abbrev pub lesser_line : LesserTrial → List ℕ
lesser_line t = width_text t.width (outcome_text t.outcome)

-- as `lesser routed width: 3`
unfoldable pub lesser_routed : (width : ℕ) → List ℕ
lesser_routed width = codes "lesser routed width: " ++ (decimal width ++ codes "\n")

abbrev pub lesser_end : (routed : Option ℕ) → List ℕ
lesser_end (Some width) = lesser_routed width
lesser_end None = codes "no lesser width was routed\n"

-- ---- which widths are tried

-- the first is one less than the least that the search found, and each other one less than the one
-- before it
abbrev pub GoesDown : (found : ℕ) → List LesserTrial → Type 0
GoesDown found tried = (i : ℕ) (t : LesserTrial) → slice_get tried i ≡ Some t → t.width + i + 1 ≡ found

-- the outcome is one of a negotiation at this width
abbrev pub IsNegotiated : (comes_to : ℕ → Outcome → Type 0) → LesserTrial → Type 0
IsNegotiated comes_to t = comes_to t.width t.outcome

-- the width of this trial if it was routed, else that of an earlier one
abbrev pub with_last : (before : Option ℕ) → LesserTrial → Option ℕ
with_last before t = if is_success t.outcome then Some t.width else before

-- the last width that was routed, if one was; if the widths go down, it is the least
unfoldable pub last_routed : List LesserTrial → Option ℕ
last_routed = fold with_last None

-- the report with one more lesser width, if it was routed
abbrev pub with_lesser : Report → LesserTrial → Report
with_lesser r t = if is_success t.outcome then with_trial r t.width t.outcome else r

-- the report with all lesser widths that were routed
unfoldable pub with_all_lesser : Report → List LesserTrial → Report
with_all_lesser = fold with_lesser

-- ---- the outcome of trying them

-- If all were tried, the last line has the least that was routed; else a free fault came before,
-- and the line is that fault's.
abbrev pub EndsLesser : (most : ℕ) → List LesserTrial → (last : List ℕ) → Type 0
EndsLesser most tried last =
    ((length tried ≡ most) × (last ≡ lesser_end (last_routed tried)))
    ⊎ ((f : AppFault) × (is_free f ≡ true) × (length tried < most) × (last ≡ fault_text f))

-- Up to `below` widths are tried, as many as there are: a line is printed for each, and a last one.
pub record TriesLesser (comes_to : ℕ → Outcome → Type 0) (found below : ℕ) (old new : Report) (past : ℕ) (text : List ℕ) : Type 0 where
  pub tried : List LesserTrial
  pub down : GoesDown found tried
  pub negotiated : All (IsNegotiated comes_to) tried
  -- those that were routed are added to the report
  pub adds : new ≡ with_all_lesser old tried
  -- all widths from this one up to the least that the search found were tried
  pub reached : past + length tried ≡ found
  pub last : List ℕ
  pub ends : EndsLesser (min below (found - 1)) tried last
  pub prints : text ≡ flat_map lesser_line tried ++ last

-- nothing is tried, and nothing printed
abbrev pub TriesNone : (least : ℕ) → (old new : Report) → (past : ℕ) → (text : List ℕ) → Type 0
TriesNone least old new past text = (new ≡ old) × (past ≡ least) × (text ≡ [])

-- Lesser widths are tried if the search found a width and some are wanted.
abbrev pub TriesBelow : (comes_to : ℕ → Outcome → Type 0) → (below : ℕ) → (old new : Report) → (past : ℕ) → (text : List ℕ) → (least : Option LeastWidth) → Type 0
TriesBelow comes_to below old new past text (Some least) =
    MatchBool (below == 0) (TriesNone least.width old new past text) (TriesLesser comes_to least.width below old new past text)
TriesBelow comes_to below old new past text None = TriesNone (most_tracks + 1) old new past text
