-- A list of trials, and one trial more.
use Rattle.std.proofs.Common.{◌≡◌, ℕ, ◌-◌, ◌<◌, ◌≤◌, List, [], ◌∷◌, ◌++◌, length, take, slice_get, Option, Some, None, inl, inr, sym, ap, subst, ◌∙◌, arith, length-append}
use Rattle.std.proofs.Math.Seq.{get_or-append_seam, take-append_seam}
use Rattle.std.proofs.lemmas.Bool.{cases_lt}
use Rattle.std.proofs.lemmas.List.{get_or_append_left, take-append-le}
use Rattle.std.proofs.lemmas.List.Sums.{fold-append}
use Rattle.std.proofs.lemmas.Option.{slice_get_within, slice_get-get_or, get_or_from_slice_get}
use Rattle.width_search.specs.declared.trial.Trial.{Trial}
use Rattle.width_search.specs.Widths.{IsSequence, greatest_unrouted, least_routed, with_routed, with_unrouted}

abbrev pub last_of : List Trial → Option Trial
last_of trials = slice_get trials (length trials - 1)

module _ (trials : List Trial) (t : Trial) where
  pub least_more : least_routed (trials ++ t ∷ []) ≡ with_routed (least_routed trials) t
  unfolding least_routed
  least_more = fold-append with_routed None trials (t ∷ [])

  pub greatest_more : greatest_unrouted (trials ++ t ∷ []) ≡ with_unrouted (greatest_unrouted trials) t
  unfolding greatest_unrouted
  greatest_more = fold-append with_unrouted 0 trials (t ∷ [])

  at_end : slice_get (trials ++ t ∷ []) (length trials) ≡ Some t
  at_end =
      slice_get-get_or (trials ++ t ∷ []) (length trials) t (omega (arith, length-append trials (t ∷ [])))
      ∙ ap Some (get_or-append_seam trials t [] t)

  pub last_more : last_of (trials ++ t ∷ []) ≡ Some t
  last_more =
      let e : length (trials ++ t ∷ []) - 1 ≡ length trials = omega (arith, length-append trials (t ∷ [])) in
      ap (slice_get (trials ++ t ∷ [])) e ∙ at_end

  same_some : (s : Trial) → ◌≡◌ {A = Option Trial} (Some t) (Some s) → s ≡ t
  same_some s e = cc

  -- what is so of each trial before, by its place, and of the one more, is so of each
  module _ (P : ℕ → Trial → Type 0) (before : (i : ℕ) (s : Trial) → slice_get trials i ≡ Some s → i < length trials → P i s) (new : P (length trials) t) where
    earlier : (i : ℕ) (s : Trial) → slice_get (trials ++ t ∷ []) i ≡ Some s → i < length trials → P i s
    earlier i s at low =
        let there : slice_get trials i ≡ Some s =
        slice_get-get_or trials i s low ∙ ap Some (sym (get_or_append_left trials (t ∷ []) s i low) ∙ get_or_from_slice_get (trials ++ t ∷ []) i s s at) in
        before i s there low

    latest : (i : ℕ) (s : Trial) → slice_get (trials ++ t ∷ []) i ≡ Some s → length trials ≤ i → P i s
    latest i s at past =
        let here : i ≡ length trials = omega (arith, past, slice_get_within (trials ++ t ∷ []) i s at, length-append trials (t ∷ [])) in
        let is : s ≡ t = same_some s (sym at_end ∙ (ap (slice_get (trials ++ t ∷ [])) (sym here) ∙ at)) in
        subst (λ n. P n s) (sym here) (subst (P (length trials)) (sym is) new)

    pub each_more : (i : ℕ) (s : Trial) → slice_get (trials ++ t ∷ []) i ≡ Some s → P i s
    each_more i s at = elim (cases_lt i (length trials)) [ inl low ↦ earlier i s at low | inr past ↦ latest i s at past ]

  module _ (next : List Trial → Option ℕ) (was : IsSequence next trials) (new : next trials ≡ Some t.width) where
    pub sequence_more : IsSequence next (trials ++ t ∷ [])
    sequence_more =
        each_more (λ i s. next (take i (trials ++ t ∷ [])) ≡ Some s.width)
        (λ i s at low. ap next (take-append-le i trials (t ∷ []) (omega (arith, low))) ∙ was i s at)
        (ap next (take-append_seam trials (t ∷ [])) ∙ new)

-- no trial is in no list
pub none_yet : (P : ℕ → Trial → Type 0) (i : ℕ) (t : Trial) → slice_get [] i ≡ Some t → P i t
none_yet P i t at = absurd (omega (arith, slice_get_within [] i t at))
