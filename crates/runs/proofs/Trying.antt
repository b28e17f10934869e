-- Lesser widths that are tried one after another.
use Rattle.std.proofs.Common.{◌≡◌, ℕ, ◌+◌, ◌-◌, ◌<◌, ◌≤◌, ◌==◌, min, max, Bool, if◌then◌else◌, List, [], ◌∷◌, ◌++◌, length, slice_get, Option, Some, None, Ok, Err, MatchBool, inl, inr, refl, sym, ap, subst, ◌∙◌, arith, length-append}
use Rattle.std.specs.List.{flat_map}
use Rattle.std.proofs.Math.Seq.{get_or-append_seam}
use Rattle.std.proofs.lemmas.Bool.{cases_lt}
use Rattle.std.proofs.lemmas.List.{append-nil, flat_map_more, get_or_append_left}
use Rattle.std.proofs.lemmas.List.Elements.{All-push}
use Rattle.std.proofs.lemmas.List.Sums.{fold-append}
use Rattle.std.proofs.lemmas.Option.{slice_get_within, slice_get-get_or, get_or_from_slice_get}
use Rattle.iteration.specs.declared.outcome.Outcome.{Outcome}
use Rattle.width_search.specs.declared.report.LeastWidth.{LeastWidth}
use Rattle.width_search.specs.Reports.{Report}
use Rattle.run_inputs.specs.declared.fault.AppFault.{AppFault}
use Rattle.run_inputs.specs.Faults.{fault_text}
use Rattle.runs.specs.LesserWidths.{GoesDown, IsNegotiated, LesserTrial, TriesBelow, TriesLesser, TriesNone, last_routed, lesser_end, lesser_line, with_all_lesser, with_last, with_lesser}
use Rattle.runs.specs.kept.Lesser.{IsTrying, TriesAll, TriesWidth, lesser_trial}

-- ---- a list of trials, and one trial more

module _ (tried : List LesserTrial) (t : LesserTrial) where
  at_end : slice_get (tried ++ t ∷ []) (length tried) ≡ Some t
  at_end =
      slice_get-get_or (tried ++ t ∷ []) (length tried) t (omega (arith, length-append tried (t ∷ [])))
      ∙ ap Some (get_or-append_seam tried t [] t)

  same_some : (s : LesserTrial) → ◌≡◌ {A = Option LesserTrial} (Some t) (Some s) → s ≡ t
  same_some s e = cc

  module _ (found : ℕ) (down : GoesDown found tried) (here : t.width + length tried + 1 ≡ found) where
    earlier : (i : ℕ) (s : LesserTrial) → slice_get (tried ++ t ∷ []) i ≡ Some s → i < length tried → s.width + i + 1 ≡ found
    earlier i s at low =
        down i s (slice_get-get_or tried i s low ∙ ap Some (sym (get_or_append_left tried (t ∷ []) s i low) ∙ get_or_from_slice_get (tried ++ t ∷ []) i s s at))

    latest : (i : ℕ) (s : LesserTrial) → slice_get (tried ++ t ∷ []) i ≡ Some s → length tried ≤ i → s.width + i + 1 ≡ found
    latest i s at past =
        let place : i ≡ length tried = omega (arith, past, slice_get_within (tried ++ t ∷ []) i s at, length-append tried (t ∷ [])) in
        let is : s ≡ t = same_some s (sym at_end ∙ (ap (slice_get (tried ++ t ∷ [])) (sym place) ∙ at)) in
        let width : s.width ≡ t.width = ap (λ (x : LesserTrial). x.width) is in
        omega (arith, here, place, width)

    down_more : GoesDown found (tried ++ t ∷ [])
    down_more i s at = elim (cases_lt i (length tried)) [ inl low ↦ earlier i s at low | inr past ↦ latest i s at past ]

  last_more : last_routed (tried ++ t ∷ []) ≡ with_last (last_routed tried) t
  unfolding last_routed
  last_more = fold-append with_last None tried (t ∷ [])

  added_more : (r : Report) → with_all_lesser r (tried ++ t ∷ []) ≡ with_lesser (with_all_lesser r tried) t
  unfolding with_all_lesser
  added_more r = fold-append with_lesser r tried (t ∷ [])

-- ---- the steps

module _ (comes_to : ℕ → Outcome → Type 0) (found : ℕ) (old : Report) where
  -- before the first
  pub trying_begun : (prints : List ℕ → Type 0) → prints [] → IsTrying comes_to found 1 old old found prints None
  unfolding last_routed with_all_lesser
  trying_begun prints p = record {
    tried = [];
    have = record {
      down = λ i t at. absurd (omega (arith, slice_get_within [] i t at));
      negotiated = λ i d low. absurd (omega (arith, low));
      adds = refl;
      reached = omega arith;
      printed = p;
    };
    count = omega arith;
    last = refl;
  }

  -- one more width
  module _ (prints more both : List ℕ → Type 0) (joined : (x y : List ℕ) → prints x → more y → both (x ++ y)) (r new : Report) (past : ℕ) where
    pub trying_more : (step : ℕ) (routed : Option ℕ) → IsTrying comes_to found step old r past prints routed
        → (w : ℕ) (is_routed : Bool) → w + step ≡ found → TriesWidth comes_to w r new more (Ok is_routed)
        → (next : Option ℕ) → next ≡ (if is_routed then Some w else routed)
        → IsTrying comes_to found (step + 1) old new w both next
    trying_more step routed was w is_routed here tries next is_next =
        let t = lesser_trial w tries.0 in
        let tried = was.tried in
        let count = was.count in
        let long = length-append tried (t ∷ []) in
        record {
          tried = tried ++ t ∷ [];
          have = record {
            down = down_more tried t found was.have.down (omega (arith, here, count));
            negotiated = All-push (IsNegotiated comes_to) tried t was.have.negotiated tries.1;
            adds = tries.3 ∙ (ap (λ (x : Report). with_lesser x t) was.have.adds ∙ sym (added_more tried t old));
            reached = omega (arith, here, count, long);
            printed = subst both (flat_map_more lesser_line [] tried t) (joined (flat_map lesser_line tried) (lesser_line t) was.have.printed tries.4);
          };
          count = omega (arith, count, long);
          last = is_next ∙ (rw (tries.2, was.last) refl ∙ sym (last_more tried t));
        }

    -- a width that can't be tried
    pub trying_failed : (step below : ℕ) (routed : Option ℕ) → IsTrying comes_to found step old r past prints routed → step ≤ below → step < found
        → (w : ℕ) (f : AppFault) → TriesWidth comes_to w r new more (Err f)
        → TriesAll comes_to found below old new past both (Err f)
    trying_failed step below routed was low less w f tries =
        let tried = was.tried in
        let count = was.count in (
          tried,
          record {
            down = was.have.down;
            negotiated = was.have.negotiated;
            adds = tries.1 ∙ was.have.adds;
            reached = was.have.reached;
            printed = subst both (append-nil (flat_map lesser_line tried)) (joined (flat_map lesser_line tried) [] was.have.printed tries.2);
          },
          grind (arith, count, low, less),
          tries.0,
        )

  -- after the last
  pub trying_ended : (prints : List ℕ → Type 0) (r : Report) (past step below : ℕ) (routed : Option ℕ) → IsTrying comes_to found step old r past prints routed
      → step ≡ min below (found - 1) + 1 → TriesAll comes_to found below old r past prints (Ok routed)
  trying_ended prints r past step below routed was end = (was.tried, was.have, omega (arith, was.count, end), was.last)

  -- ---- all of them, with the last line

  module _ (prints more both : List ℕ → Type 0) (joined : (x y : List ℕ) → prints x → more y → both (x ++ y)) (below : ℕ) (new : Report) (past : ℕ) where
    pub tried_all : (routed : Option ℕ) → TriesAll comes_to found below old new past prints (Ok routed) → more (lesser_end routed)
        → (text : List ℕ) × TriesLesser comes_to found below old new past text × both text
    tried_all routed all told =
        let lines = flat_map lesser_line all.0 in (
          lines ++ lesser_end routed,
          record {
            tried = all.0;
            down = all.1.down;
            negotiated = all.1.negotiated;
            adds = all.1.adds;
            reached = all.1.reached;
            last = lesser_end routed;
            ends = inl (all.2, ap lesser_end all.3);
            prints = refl;
          },
          joined lines (lesser_end routed) all.1.printed told,
        )

    pub tried_some : (f : AppFault) → TriesAll comes_to found below old new past prints (Err f) → more (fault_text f)
        → (text : List ℕ) × TriesLesser comes_to found below old new past text × both text
    tried_some f all told =
        let lines = flat_map lesser_line all.0 in (
          lines ++ fault_text f,
          record {
            tried = all.0;
            down = all.1.down;
            negotiated = all.1.negotiated;
            adds = all.1.adds;
            reached = all.1.reached;
            last = fault_text f;
            ends = inr (f, all.3, all.2, refl);
            prints = refl;
          },
          joined lines (fault_text f) all.1.printed told,
        )

-- ---- where none is tried

module _ (comes_to : ℕ → Outcome → Type 0) (below : ℕ) (r : Report) (prints : List ℕ → Type 0) (nothing : prints []) (least : Option LeastWidth) where
  -- as the search found no width
  pub tries_without : None ≡ least → (text : List ℕ) × TriesBelow comes_to below r r 257 text least × prints text
  tries_without e = ([], subst (λ (l : Option LeastWidth). TriesBelow comes_to below r r 257 [] l) e (refl, refl, refl), nothing)

  -- as none is wanted
  pub tries_unwanted : (found : LeastWidth) → Some found ≡ least → below ≡ 0 → (text : List ℕ) × TriesBelow comes_to below r r found.width text least × prints text
  tries_unwanted found e none =
      let untried =
      subst (λ (n : ℕ). MatchBool (n == 0) (TriesNone found.width r r found.width []) (TriesLesser comes_to found.width n r r found.width [])) (sym none)
      (refl, refl, refl) in
      ([], subst (λ (l : Option LeastWidth). TriesBelow comes_to below r r found.width [] l) e untried, nothing)

-- ---- the loop over the steps

pub step_within : (width count step past most : ℕ) → past ≡ min width most → most ≡ min (count + 1) 4294967295 → step < past → (step ≤ count) × (step < width)
step_within width count step past most e f less = (grind (arith, e, f, less), grind (arith, e, f, less))

pub steps_ended : (width count step past most : ℕ) → past ≡ min width most → most ≡ min (count + 1) 4294967295 → width ≤ 256 → 1 ≤ width → step ≤ max 1 past → 1 ≤ step → past ≤ step
    → step ≡ min count (width - 1) + 1
steps_ended width count step past most e f wide some low first end = grind (arith, e, f, wide, some, low, first, end)
