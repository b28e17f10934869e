-- A walk from a pair up to the source: what it has met so far, and how it ends.
use Rattle.std.proofs.Common.{◌≡◌, ◌≢◌, ℕ, ◌+◌, ◌<◌, ◌⊎◌, ◌==◌, Bool, true, false, not, List, length, get_or, set, inl, inr, refl, sym, ap, ◌∙◌, subst, arith}
use Rattle.std.specs.Prelude.{Contains}
use Rattle.std.specs.Bool.{MatchBool}
use Rattle.std.proofs.lemmas.Bool.{both_ways, cases_eq, eqb-false, eqb-true, not-false, not-true}
use Rattle.std.proofs.lemmas.List.{get_or-set_same, get_or-set_other, length-set}
use Rattle.std.proofs.lemmas.List.Elements.{All-get_or, at_from_Contains}
use Rattle.route_tree.specs.Paths.{Pair, Path, ends_of}
use Rattle.route_tree.specs.Paths.Path.{here, along}
use Rattle.route_tree.specs.Legality.{is_among, LeadsToSink, IsJoined}
use Rattle.route_tree.specs.Faults.{reaches_twice}
use Rattle.route_tree.proofs.Members.{contains_among, end_of, pair_among}
use Rattle.route_tree.proofs.Ways.{step_on, last_step}
use Rattle.route_check.specs.kept.Ends.{begin_in, end_in}
use Rattle.route_check.specs.kept.Judged.{net_of, Dangles}
use Rattle.route_check.specs.kept.Walks.{IsMet, HasMetParent, IsOnWay, AreWalked, IsWalkedFrom}
use Rattle.route_check.proofs.Once.{not_source, same_row}

-- pair k was met by this walk, which is at this row now
pub record IsMine (source : ℕ) (sinks : List ℕ) (pairs : List Pair) (walk : ℕ) (walks : List ℕ) (row k : ℕ) : Type 0 where
  pub leads : LeadsToSink (net_of source sinks) pairs (end_in pairs k)
  pub reached : Path pairs source (end_in pairs row) → Path pairs source (end_in pairs k)
  pub parent : (j : ℕ) × (j < length pairs) × (end_in pairs j ≡ begin_in pairs k) × ((get_or walks j 0 ≡ walk) ⊎ (j ≡ row))

-- a walk on its way
pub record IsClimbing (source : ℕ) (sinks : List ℕ) (pairs : List Pair) (walk start : ℕ) (old walks : List ℕ) (row : ℕ) : Type 0 where
  pub each : length walks ≡ length pairs
  pub there : row < length pairs
  pub leads : LeadsToSink (net_of source sinks) pairs (end_in pairs row)
  pub earlier : (k : ℕ) → get_or walks k 0 ≢ walk → get_or walks k 0 ≡ get_or old k 0
  pub fresh : (k : ℕ) → get_or walks k 0 ≡ walk → get_or old k 0 ≡ 0
  pub mine : (k : ℕ) → k < length pairs → get_or walks k 0 ≡ walk → IsMine source sinks pairs walk walks row k
  pub started : (start ≡ row) ⊎ (get_or walks start 0 ≡ walk)

module _ (source : ℕ) (sinks : List ℕ) (pairs : List Pair) (once : reaches_twice source pairs ≡ false) (walk : ℕ) (pos : 0 < walk) (start : ℕ) (old : List ℕ)
    (before : AreWalked source sinks pairs walk old) where
  abbrev Climbing : (walks : List ℕ) → (row : ℕ) → Type 0
  Climbing walks row = IsClimbing source sinks pairs walk start old walks row

  pub begun : start < length pairs → Contains sinks (end_in pairs start) → Climbing old start
  begun l sink =
      let not_mine : (k : ℕ) → get_or old k 0 ≢ walk = λ k e. (let low = before.earlier k in omega (arith, low, e)) in
      record {
        each = before.each;
        there = l;
        leads = (end_in pairs start, sink, here (end_in pairs start));
        earlier = λ k e. refl;
        fresh = λ k e. absurd (not_mine k e);
        mine = λ k m e. absurd (not_mine k e);
        started = inl refl;
      }

  -- ---- a walk that is done
  module _ (new : List ℕ) (each : length new ≡ length pairs) (earlier : (k : ℕ) → get_or new k 0 ≢ walk → get_or new k 0 ≡ get_or old k 0)
      (fresh : (k : ℕ) → get_or new k 0 ≡ walk → get_or old k 0 ≡ 0) where
    mine_met : (k : ℕ) → get_or new k 0 ≡ walk → IsMet new k
    mine_met k e = λ none. omega (arith, e, none)

    kept : (k : ℕ) → IsMet old k → IsMet new k
    kept k met = elim (cases_eq (get_or new k 0) walk) [
      | inl e ↦ absurd (met (fresh k e))
      | inr other ↦ λ none. met (sym (earlier k other) ∙ none)
    ]

    low : (k : ℕ) → get_or new k 0 < walk + 1
    low k = elim (cases_eq (get_or new k 0) walk) [
      | inl e ↦ omega (arith, e)
      | inr other ↦ (let same = earlier k other in let l = before.earlier k in omega (arith, same, l))
    ]

    after_kept : (k : ℕ) → (source ≡ begin_in pairs k) ⊎ HasMetParent pairs old k → (source ≡ begin_in pairs k) ⊎ HasMetParent pairs new k
    after_kept k (inl e) = inl e
    after_kept k (inr p) = inr (p.0, p.1, p.2, kept p.0 p.3)

    pub finished : ((k : ℕ) → k < length pairs → get_or new k 0 ≡ walk → IsOnWay source sinks pairs new k) → start < length pairs → IsMet new start →
        IsWalkedFrom source sinks pairs walk (end_in pairs start) old new
    finished mine first met = record {
      walked = record {
        each = each;
        earlier = low;
        met = λ k l there. elim (cases_eq (get_or new k 0) walk) [
          | inl e ↦ mine k l e
          | inr other ↦ (
              let way = before.met k l (λ none. there (earlier k other ∙ none)) in
              record { reached = way.reached; leads = way.leads; behind = after_kept k way.behind })
        ];
      };
      left = λ k l same. subst (IsMet new) (same_row source pairs once start k first l (sym same)) met;
      kept = kept;
    }

  module _ (walks : List ℕ) (row : ℕ) (climbing : Climbing walks row) where
    pair : Contains pairs (begin_in pairs row, end_in pairs row)
    pair = pair_among pairs row climbing.there

    -- ---- it marks its pair
    module _ (unmet : get_or walks row 0 ≡ 0) where
      abbrev marked : List ℕ
      marked = set walks row walk

      within : row < length walks
      within = let size = climbing.each in let l = climbing.there in omega (arith, size, l)

      here_marked : get_or marked row 0 ≡ walk
      here_marked = get_or-set_same walks row walk 0 within

      other_kept : (k : ℕ) → k ≢ row → get_or marked k 0 ≡ get_or walks k 0
      other_kept k apart = get_or-set_other walks row k walk 0 apart

      still_mine : (k : ℕ) → get_or walks k 0 ≡ walk → get_or marked k 0 ≡ walk
      still_mine k e = elim (cases_eq k row) [
        | inl same ↦ subst (λ i. get_or marked i 0 ≡ walk) (sym same) here_marked
        | inr apart ↦ other_kept k apart ∙ e
      ]

      earlier_kept : (k : ℕ) → get_or marked k 0 ≢ walk → get_or marked k 0 ≡ get_or old k 0
      earlier_kept k other = elim (cases_eq k row) [
        | inl same ↦ absurd (other (subst (λ i. get_or marked i 0 ≡ walk) (sym same) here_marked))
        | inr apart ↦ other_kept k apart ∙ climbing.earlier k (λ e. other (other_kept k apart ∙ e))
      ]

      row_fresh : get_or old row 0 ≡ 0
      row_fresh = sym (climbing.earlier row (λ e. absurd (omega (arith, e, unmet)))) ∙ unmet

      fresh_kept : (k : ℕ) → get_or marked k 0 ≡ walk → get_or old k 0 ≡ 0
      fresh_kept k e = elim (cases_eq k row) [
        | inl same ↦ subst (λ i. get_or old i 0 ≡ 0) (sym same) row_fresh
        | inr apart ↦ climbing.fresh k (sym (other_kept k apart) ∙ e)
      ]

      parent_marked : (j : ℕ) → (get_or walks j 0 ≡ walk) ⊎ (j ≡ row) → get_or marked j 0 ≡ walk
      parent_marked j (inl e) = still_mine j e
      parent_marked j (inr same) = subst (λ i. get_or marked i 0 ≡ walk) (sym same) here_marked

      -- to the pair that ends where this one begins
      module _ (parent : ℕ) (there : parent < length pairs) (same : end_in pairs parent ≡ begin_in pairs row) where
        up_leads : LeadsToSink (net_of source sinks) pairs (end_in pairs parent)
        up_leads =
            let on = climbing.leads in
            subst (LeadsToSink (net_of source sinks) pairs) (sym same) (on.0, on.1, along (begin_in pairs row) (end_in pairs row) on.0 pair on.2)

        up_reached : Path pairs source (end_in pairs parent) → Path pairs source (end_in pairs row)
        up_reached way = step_on pairs (end_in pairs row) (subst (Path pairs source) same way) pair

        up_mine : (k : ℕ) → k < length pairs → get_or marked k 0 ≡ walk → IsMine source sinks pairs walk marked parent k
        up_mine k l e = elim (cases_eq k row) [
          | inl at ↦ subst (IsMine source sinks pairs walk marked parent) (sym at)
              (record { leads = climbing.leads; reached = up_reached; parent = (parent, there, same, inr refl) })
          | inr apart ↦ (
              let mine = climbing.mine k l (sym (other_kept k apart) ∙ e) in
              let p = mine.parent in
              record { leads = mine.leads; reached = λ way. mine.reached (up_reached way); parent = (p.0, p.1, p.2, inl (parent_marked p.0 p.3)) })
        ]

        pub climbed : Climbing marked parent
        climbed = record {
          each = length-set walks row walk ∙ climbing.each;
          there = there;
          leads = up_leads;
          earlier = earlier_kept;
          fresh = fresh_kept;
          mine = up_mine;
          started = inr (elim climbing.started [ inl at ↦ subst (λ i. get_or marked i 0 ≡ walk) (sym at) here_marked | inr e ↦ still_mine start e ]);
        }

      -- to the source
      module _ (first : start < length pairs) where
        root_met : (k : ℕ) → k < length pairs → get_or marked k 0 ≡ walk → begin_in pairs row ≡ source → IsOnWay source sinks pairs marked k
        root_met k l e root =
            let way = step_on pairs (end_in pairs row) (subst (Path pairs source) (sym root) (here source)) pair in
            elim (cases_eq k row) [
              | inl at ↦ subst (IsOnWay source sinks pairs marked) (sym at) (record { reached = way; leads = climbing.leads; behind = inl (sym root) })
              | inr apart ↦ (
                  let mine = climbing.mine k l (sym (other_kept k apart) ∙ e) in
                  let p = mine.parent in
                  let met : IsMet marked p.0 = mine_met marked (length-set walks row walk ∙ climbing.each) earlier_kept fresh_kept p.0
                  (parent_marked p.0 p.3) in
                  record { reached = mine.reached way; leads = mine.leads; behind = inr (p.0, p.1, p.2, met) })
            ]

        at_source : begin_in pairs row ≡ source → IsWalkedFrom source sinks pairs walk (end_in pairs start) old marked
        at_source root =
            finished marked (length-set walks row walk ∙ climbing.each) earlier_kept fresh_kept (λ k l e. root_met k l e root) first
            (mine_met marked (length-set walks row walk ∙ climbing.each) earlier_kept fresh_kept start
            (elim climbing.started [ inl at ↦ subst (λ i. get_or marked i 0 ≡ walk) (sym at) here_marked | inr e ↦ still_mine start e ]))

        -- or to a node that is none
        astray : begin_in pairs row ≢ source → is_among (ends_of pairs) (begin_in pairs row) ≡ false → Dangles source sinks pairs
        astray other none = λ joined.
            elim (last_step pairs (All-get_or (IsJoined (net_of source sinks) pairs) pairs row (0, 0) climbing.there joined).from_source) [
              | inl same ↦ not_source source pairs once row climbing.there (sym same)
              | inr last ↦ (
                  let found = at_from_Contains pairs (last.begin, end_in pairs row) last.there in
                  let at = found.2 (0, 0) in
                  let place = same_row source pairs once found.0 row found.1 climbing.there (ap (λ (p : Pair). p.1) at) in
                  let begin : last.begin ≡ begin_in pairs row = sym (ap (λ (p : Pair). p.0) at) ∙ ap (begin_in pairs) place in
                  elim (last_step pairs (subst (Path pairs source) begin last.before)) [
                    | inl same ↦ other (sym same)
                    | inr more ↦
                        both_ways (is_among (ends_of pairs) (begin_in pairs row)) none
                        (contains_among (ends_of pairs) (begin_in pairs row) (end_of pairs (more.begin, begin_in pairs row) more.there))
                  ])
            ]

        pub ends_above : is_among (ends_of pairs) (begin_in pairs row) ≡ false → (t : Bool) → (begin_in pairs row == source) ≡ t →
            MatchBool t (IsWalkedFrom source sinks pairs walk (end_in pairs start) old marked) (Dangles source sinks pairs)
        ends_above none true e = at_source (eqb-true (begin_in pairs row) source e)
        ends_above none false e = astray (eqb-false (begin_in pairs row) source e) none

    -- ---- it meets a pair that was met
    module _ (met : IsMet walks row) (first : start < length pairs) where
      met_here : (k : ℕ) → get_or walks k 0 ≡ walk → IsMet walks k
      met_here k e = λ none. omega (arith, e, none)

      parent_met : (j : ℕ) → (get_or walks j 0 ≡ walk) ⊎ (j ≡ row) → IsMet walks j
      parent_met j (inl e) = met_here j e
      parent_met j (inr same) = subst (IsMet walks) (sym same) met

      arrived : get_or walks row 0 ≢ walk → IsWalkedFrom source sinks pairs walk (end_in pairs start) old walks
      arrived other =
          let way = before.met row climbing.there (λ none. met (climbing.earlier row other ∙ none)) in
          finished walks climbing.each climbing.earlier climbing.fresh
          (λ k l e.
          let mine = climbing.mine k l e in
          let p = mine.parent in
          record { reached = mine.reached way.reached; leads = mine.leads; behind = inr (p.0, p.1, p.2, parent_met p.0 p.3) })
          first
          (elim climbing.started [ inl at ↦ subst (IsMet walks) (sym at) met | inr e ↦ met_here start e ])

      -- a pair of this walk ends in the node
      IsRound : ℕ → Type 0
      IsRound a = (k : ℕ) × (k < length pairs) × (get_or walks k 0 ≡ walk) × (end_in pairs k ≡ a)

      round_back : get_or walks row 0 ≡ walk → (a b : ℕ) → Path pairs a b → IsRound b → IsRound a
      unfolding IsRound
      round_back here_too a b (here _) round = round
      round_back here_too a b (along _ c _ h way) round =
          let on = round_back here_too c b way round in
          let found = at_from_Contains pairs (a, c) h in
          let at = found.2 (0, 0) in
          let place = same_row source pairs once found.0 on.0 found.1 on.1 (ap (λ (p : Pair). p.1) at ∙ sym on.3) in
          let begin : begin_in pairs on.0 ≡ a = sym (ap (begin_in pairs) place) ∙ ap (λ (p : Pair). p.0) at in
          let p = (climbing.mine on.0 on.1 on.2).parent in
          let mark : get_or walks p.0 0 ≡ walk = elim p.3 [ inl e ↦ e | inr same ↦ subst (λ i. get_or walks i 0 ≡ walk) (sym same) here_too ] in
          (p.0, p.1, mark, p.2 ∙ begin)

      circled : get_or walks row 0 ≡ walk → Dangles source sinks pairs
      unfolding IsRound
      circled here_too = λ joined.
          let way = (All-get_or (IsJoined (net_of source sinks) pairs) pairs row (0, 0) climbing.there joined).from_source in
          let round = round_back here_too source (end_in pairs row) way (row, climbing.there, here_too, refl) in
          not_source source pairs once round.0 round.1 round.3

      pub ends_met : (t : Bool) → not (get_or walks row 0 == walk) ≡ t →
          MatchBool t (IsWalkedFrom source sinks pairs walk (end_in pairs start) old walks) (Dangles source sinks pairs)
      ends_met true e = arrived (eqb-false (get_or walks row 0) walk (not-true (get_or walks row 0 == walk) e))
      ends_met false e = circled (eqb-true (get_or walks row 0) walk (not-false (get_or walks row 0 == walk) e))
