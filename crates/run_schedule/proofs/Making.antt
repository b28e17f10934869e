-- The turns of an iteration, and one more.
use Rattle.std.proofs.Common.{◌≡◌, ◌≢◌, ℕ, ◌<◌, ◌≤◌, suc, Bool, true, false, ◌||◌, List, [], ◌∷◌, ◌++◌, eqb, length, get_or, map, set, inl, inr, refl, sym, subst, ◌∙◌, arith}
use Rattle.std.specs.List.{All, AllPairs, Any, IsDistinct, list_all}
use Rattle.std.proofs.lemmas.Bool.{cases_eq, eq-eqb, eqb-true, false≢true, ne_eqb, or_left, or_right}
use Rattle.std.proofs.lemmas.List.{get_or-set_other, get_or-set_same, get_or_append_left, get_or_default, get_or_push, get_or-map, length-map, length-set, length_push}
use Rattle.std.proofs.lemmas.List.Elements.{All-map, All-push, recursion_from_All}
use Rattle.std.proofs.lemmas.Map.Keys.{IsDistinct-cons}
use Rattle.std.proofs.lemmas.Map.Steps.{length-le_from_distinct_below}
use Rattle.std.proofs.lemmas.List.Folds.{Any-from_list_any, list_any-append, list_any-from_Any, list_any_none}
use Rattle.std.proofs.lemmas.List.Quantifiers.{all_pairs_push, Any-push}
use Rattle.std.proofs.lemmas.List.Sums.{AllPass-from_list_all, list_all-from_AllPass}
use Rattle.gates.specs.declared.schedule.ScheduledTurn.{ScheduledTurn}
use Rattle.run_schedule.specs.Schedules.{AreTurns, IsIteration}
use Rattle.run_schedule.specs.kept.Taking.{IsReadable}
use Rattle.run_schedule.specs.kept.Made.{AreKept, has_turn, IsLastSeen, MayFollow}

-- ---- whether a net has had its turn

is_of : (net : ℕ) → ScheduledTurn → Bool
is_of net t = eqb t.net net

pub none_of : (turns : List ScheduledTurn) (net : ℕ) → All (λ s. s.net ≢ net) turns → has_turn turns net ≡ false
none_of turns net none = list_any_none (λ t. eqb t.net net) turns (λ k d l. ne_eqb (get_or turns k d).net net (none k d l))

pub none_has : (turns : List ScheduledTurn) (net : ℕ) → has_turn turns net ≡ false → All (λ s. s.net ≢ net) turns
none_has turns net e = λ k d l is.
    let x = get_or turns k d in
    let here : Any (λ t. eqb t.net net ≡ true) turns = (k, x, l, get_or_default turns k x d l, eq-eqb x.net net is) in
    false≢true (sym e ∙ list_any-from_Any (λ t. eqb t.net net) turns here)

-- a net may have its turn where none is marked
pub net_judged : {had : List Bool} {last : List ℕ} {turns : List ScheduledTurn} → AreKept had last turns → (net : ℕ) → net < length had → (b : Bool) → get_or had net false ≡ b
    → (b ≡ false → (net < length had) × All (λ s. s.net ≢ net) turns) × ((net < length had) × All (λ s. s.net ≢ net) turns → b ≡ false)
net_judged {had} {last} {turns} kept net within b is =
    let marked : b ≡ has_turn turns net = sym is ∙ kept.nets net within in
    (λ free. (within, none_has turns net (sym marked ∙ free)), λ free. marked ∙ none_of turns net free.1)

-- ---- one more turn

any_kept : {X : Type 0} (P : X → Type 0) (xs : List X) (y : X) → Any P xs → Any P (xs ++ y ∷ [])
any_kept P xs y h =
    let (k, x, within, is, p) = h in
    (k, x, omega (arith, within, length_push xs y), get_or_append_left xs (y ∷ []) x k within ∙ is, p)

alone : (a b : Bool) → b ≡ false → a || (b || false) ≡ a
alone true b e = refl
alone false b e = rw e refl

seen_more : (turns : List ScheduledTurn) (t : ScheduledTurn) → ((i : ℕ) (d : ScheduledTurn) → i < length turns → (get_or turns i d).seen ≤ i) → t.seen ≤ length turns
    → (i : ℕ) (d : ScheduledTurn) → i < length (turns ++ t ∷ []) → (get_or (turns ++ t ∷ []) i d).seen ≤ i
seen_more turns t before here i d within =
    elim (cases_eq (length turns) i) [
      | inl e ↦ subst (λ s. s.seen ≤ i) (sym (get_or_push turns t d i e)) (omega (arith, e, here))
      | inr apart ↦ (let earlier : i < length turns = omega (arith, apart, within, length_push turns t) in
          subst (λ s. s.seen ≤ i) (sym (get_or_append_left turns (t ∷ []) d i earlier)) (before i d earlier))
    ]

pub turns_more : {nets workers : ℕ} {turns : List ScheduledTurn} → AreTurns nets workers turns → (t : ScheduledTurn) → MayFollow (record { nets = nets; workers = workers; turns = turns }) t → AreTurns nets workers (turns ++ t ∷ [])
turns_more {nets} {workers} {turns} made t follows = record {
  of_nets = All-push (λ s. s.net < nets) turns t made.of_nets follows.net;
  once = all_pairs_push (λ s u. s.net ≢ u.net) turns t made.once follows.first;
  by_workers = All-push (λ s. s.worker < workers) turns t made.by_workers follows.worker;
  seen = seen_more turns t made.seen follows.seen;
  grows = all_pairs_push (λ s u. s.worker ≡ u.worker → s.seen ≤ u.seen) turns t made.grows follows.grows;
}

module _ {had : List Bool} {last : List ℕ} {turns : List ScheduledTurn} (kept : AreKept had last turns) (t : ScheduledTurn) (follows : MayFollow (record { nets = length had; workers = length last; turns = turns }) t) where
  nets_more : (net : ℕ) → net < length (set had t.net true) → get_or (set had t.net true) net false ≡ has_turn (turns ++ t ∷ []) net
  nets_more net within =
      let inside : net < length had = omega (arith, within, length-set had t.net true) in
      let joined = list_any-append (λ s. eqb s.net net) turns (t ∷ []) in
      elim (cases_eq net t.net) [
        | inl e ↦ (let first : get_or (set had t.net true) net false ≡ true = subst (λ n. get_or (set had t.net true) n false ≡ true) (sym e) (get_or-set_same had t.net true false follows.net) in
            first ∙ sym (joined ∙ or_right (has_turn turns net) (eqb t.net net || false) (or_left (eqb t.net net) false (eq-eqb t.net net (sym e)))))
        | inr apart ↦ get_or-set_other had t.net net true false apart ∙ kept.nets net inside
            ∙ sym (joined ∙ alone (has_turn turns net) (eqb t.net net) (ne_eqb t.net net (λ e. apart (sym e))))
      ]

  workers_more : (worker : ℕ) → worker < length (set last t.worker t.seen) → IsLastSeen (turns ++ t ∷ []) worker (get_or (set last t.worker t.seen) worker 0)
  workers_more worker within =
      elim (cases_eq worker t.worker) [
        | inl e ↦ subst (λ n. IsLastSeen (turns ++ t ∷ []) n (get_or (set last t.worker t.seen) n 0)) (sym e)
            (subst (IsLastSeen (turns ++ t ∷ []) t.worker) (sym (get_or-set_same last t.worker t.seen 0 follows.worker)) (record {
              most = All-push (λ s. s.worker ≡ t.worker → s.seen ≤ t.seen) turns t follows.grows (λ same. omega arith);
              some = inr (Any-push (λ s. (s.worker ≡ t.worker) × (s.seen ≡ t.seen)) turns t (refl, refl));
            }))
        | inr apart ↦ (let inside : worker < length last = omega (arith, within, length-set last t.worker t.seen) in
            let before = kept.workers worker inside in
            subst (IsLastSeen (turns ++ t ∷ []) worker) (sym (get_or-set_other last t.worker worker t.seen 0 apart)) (record {
              most = All-push (λ s. s.worker ≡ worker → s.seen ≤ get_or last worker 0) turns t before.most (λ same. absurd (apart (sym same)));
              some = elim before.some [ inl none ↦ inl none | inr any ↦ inr (any_kept (λ s. (s.worker ≡ worker) × (s.seen ≡ get_or last worker 0)) turns t any) ];
            }))
      ]

  pub kept_more : AreKept (set had t.net true) (set last t.worker t.seen) (turns ++ t ∷ [])
  kept_more = record {
    few_nets = rw length-set kept.few_nets;
    few_workers = rw length-set kept.few_workers;
    made = rw (length-set had t.net true, length-set last t.worker t.seen) (turns_more kept.made t follows);
    nets = nets_more;
    workers = workers_more;
  }

-- ---- all turns

has_each : (had : List Bool) → list_all (λ b. b) had ≡ true → (net : ℕ) → net < length had → get_or had net false ≡ true
has_each had all net within = AllPass-from_list_all (λ b. b) had all net false within

pub all_turned : {had : List Bool} {last : List ℕ} {turns : List ScheduledTurn} → AreKept had last turns → list_all (λ b. b) had ≡ true → IsIteration (length had) (length last) turns
all_turned {had} {last} {turns} kept all = record {
  made = kept.made;
  all = λ net within.
      let found = Any-from_list_any (λ t. eqb t.net net) turns (sym (kept.nets net within) ∙ has_each had all net within) in
      (found.0, found.1, found.2, found.3, eqb-true found.1.net net found.4);
}

pub not_all_turned : {had : List Bool} {last : List ℕ} {turns : List ScheduledTurn} → AreKept had last turns → list_all (λ b. b) had ≡ false → IsIteration (length had) (length last) turns → ⊥
not_all_turned {had} {last} {turns} kept some whole =
    false≢true (sym some ∙ list_all-from_AllPass (λ b. b) had (λ net d within.
    let (k, x, inside, is, of) = whole.all net within in
    let found : has_turn turns net ≡ true = list_any-from_Any (λ t. eqb t.net net) turns (k, x, inside, is, eq-eqb x.net net of) in
    get_or_default had net d false within ∙ kept.nets net within ∙ found))

-- ---- what can be read

distinct_none : IsDistinct eqb []
unfolding IsDistinct
distinct_none = tt

apart_from : (turns : List ScheduledTurn) → AllPairs (λ s t. s.net ≢ t.net) turns → IsDistinct eqb (map (λ t. t.net) turns)
apart_from [] once = distinct_none
apart_from (t ∷ turns) once =
    let later : All (λ s. eqb t.net s.net ≡ false) turns = λ k d within. ne_eqb t.net (get_or turns k d).net (once 0 (suc k) d (omega arith) (omega (arith, within))) in
    IsDistinct-cons eqb t.net (map (λ s. s.net) turns) (recursion_from_All (λ net. eqb t.net net ≡ false) (map (λ s. s.net) turns) (All-map (λ net. eqb t.net net ≡ false) (λ (s : ScheduledTurn). s.net) turns later))
    (apart_from turns (λ i k d before within. once (suc i) (suc k) d (omega (arith, before)) (omega (arith, within))))

-- there are no more turns than nets
few_made : {nets workers : ℕ} {turns : List ScheduledTurn} → AreTurns nets workers turns → length turns ≤ nets
few_made {nets} {workers} {turns} made =
    let numbers = map (λ (t : ScheduledTurn). t.net) turns in
    let few = length-le_from_distinct_below numbers nets (apart_from turns made.once) (λ q found.
    let (k, x, within, is, same) = Any-from_list_any (eqb q) numbers found in
    let inside : k < length turns = omega (arith, within, length-map turns (λ (t : ScheduledTurn). t.net)) in
    let d : ScheduledTurn = record { worker = 0; net = 0; seen = 0 } in
    let there : (get_or turns k d).net ≡ q = sym (get_or-map (λ (t : ScheduledTurn). t.net) turns k d x inside) ∙ is ∙ sym (eqb-true q x same) in
    subst (λ n. n < nets) there (made.of_nets k d inside)) in
    omega (arith, few, length-map turns (λ (t : ScheduledTurn). t.net))

pub can_be_read : {had : List Bool} {last : List ℕ} {turns : List ScheduledTurn} → AreKept had last turns → (t : ScheduledTurn) → MayFollow (record { nets = length had; workers = length last; turns = turns }) t → IsReadable t
can_be_read {had} {last} {turns} kept t follows = record {
  net = omega (arith, follows.net, kept.few_nets);
  worker = omega (arith, follows.worker, kept.few_workers);
  seen = omega (arith, follows.seen, few_made kept.made, kept.few_nets);
}
