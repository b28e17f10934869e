-- Reports that are made of the turns of a legal history agree with the book.
use Rattle.std.proofs.Common.{◌≡◌, ℕ, zero, suc, ◌<◌, ◌≤◌, ◌==◌, nat_lt, Bool, true, false, cond, List, [], ◌∷◌, ◌++◌, length, take, get_or, set, None, refl, sym, ap, subst, ◌∙◌, arith, inl, inr, length-set, eq-eqb}
use Rattle.std.specs.Prelude.{map, All}
use Rattle.std.specs.List.{filter}
use Rattle.std.proofs.lemmas.Grind.{get_or-set_at}
use Rattle.std.proofs.lemmas.Bool.{cases_eq, ne_eqb}
use Rattle.std.proofs.lemmas.Bool.Decides.{nat_tests}
use Rattle.std.proofs.lemmas.List.{length-map, length-take-le, take-take, take-map, map-append, get_or_default}
use Rattle.std.proofs.lemmas.List.Elements.{All-filter, All-map, All-head, All-tail, All-cons, All-nil, filter-append}
use Rattle.route_tree.specs.TreeLists.{list_of_tree}
use Rattle.route_tree.specs.Usage.{Lists, list_in}
use Rattle.wavefront.specs.Growth.{space_of}
use Rattle.congestion_book.specs.declared.turn.Turn.{Turn}
use Rattle.routing_problem.specs.Problems.{RoutingProblem}
use Rattle.congestion_book.specs.Turns.{turns_at, one_if, NameEachOnce, holder_in}
use Rattle.congestion_book.specs.Contents.{Content, IsSound, net_count, view_of}
use Rattle.net_workers.specs.declared.made_turn.MadeTurn.{MadeTurn}
use Rattle.net_workers.specs.declared.report.ReportEntry.{ReportEntry}
use Rattle.net_workers.specs.WorkerParts.{IsOfIteration}
use Rattle.net_workers.specs.Agreement.{Agrees, IsReportOf, IsRecorded, reported_turn}
use Rattle.gates.specs.declared.schedule.ScheduledTurn.{ScheduledTurn}
use Rattle.net_workers.specs.Schedules.{IsScheduleOf, scheduled_turn}
use Rattle.net_workers.specs.Searches.{IsFoundIn, IsFound, AreFound, lists_turned}
use Rattle.net_workers.specs.kept.TurnLogs.{Plan, plan_of, lists_after, turns_for, turn_in_book, turn_in_schedule, entries_of, IsLegal, IsFoundAfter}
use Rattle.net_workers.proofs.TurnLogs.{lists_len, kept_list, one_first, own_first, none_first, fewer, turns_are}

-- the lists have what each turn gave to its net
abbrev pub AreGiven : Lists → List MadeTurn → Type 0
AreGiven lists log = All (λ t. list_in lists t.entry.net ≡ list_of_tree t.entry.tree) log

-- the lists after turns of which no net had two
pub given : (lists : Lists) (log : List MadeTurn) → All (λ t. t.entry.net < length lists) log → ((net : ℕ) → turns_for net log ≤ 1) → AreGiven (lists_after lists log) log
given lists [] there once = All-nil (λ (t : MadeTurn). list_in lists t.entry.net ≡ list_of_tree t.entry.tree)
given lists (t ∷ ts) there once =
    let next = set lists t.entry.net (list_of_tree t.entry.tree) in
    let none : turns_for t.entry.net ts ≡ 0 = omega (arith, own_first t ts, once t.entry.net) in
    let here : list_in (lists_after next ts) t.entry.net ≡ list_of_tree t.entry.tree =
    kept_list next ts t.entry.net none ∙ get_or-set_at lists t.entry.net t.entry.net (list_of_tree t.entry.tree) None refl (All-head (λ (u : MadeTurn). u.entry.net < length lists) t ts there) in
    let rest = given next ts
    (λ k d low. omega (arith, All-tail (λ (u : MadeTurn). u.entry.net < length lists) t ts there k d low, length-set lists t.entry.net (list_of_tree t.entry.tree)))
    (λ net. omega (arith, once net, fewer t ts net)) in
    All-cons (λ (u : MadeTurn). list_in (lists_after next ts) u.entry.net ≡ list_of_tree u.entry.tree) t ts here rest

-- the lists after the first turns are those of before, with what these turns gave
pub lists_given : (lists new : Lists) (log : List MadeTurn) (m : ℕ) → AreGiven new log → lists_after lists (take m log) ≡ lists_turned lists new (take m (map turn_in_book log))
lists_given lists new [] zero are = refl
lists_given lists new [] (suc m) are = refl
lists_given lists new (t ∷ ts) zero are = refl
lists_given lists new (t ∷ ts) (suc m) are =
    let IsGiven = λ (u : MadeTurn). list_in new u.entry.net ≡ list_of_tree u.entry.tree in
    let here : list_in new t.entry.net ≡ list_of_tree t.entry.tree = All-head IsGiven t ts are in
    ap (λ l. lists_after (set lists t.entry.net l) (take m ts)) (sym here)
    ∙ lists_given (set lists t.entry.net (list_in new t.entry.net)) new ts m (All-tail IsGiven t ts are)

-- the first of the turns at a net that has none among more
pub none_sooner : (log : List MadeTurn) (m k net : ℕ) → m ≤ k → turns_for net (take k log) ≡ 0 → turns_for net (take m log) ≡ 0
none_sooner log zero k net less none = refl
none_sooner [] (suc m) k net less none = refl
none_sooner (t ∷ ts) (suc m) zero net less none = absurd (omega arith)
none_sooner (t ∷ ts) (suc m) (suc k) net less none =
    let rest = none_sooner ts m k net (omega (arith, less)) (none_first t (take k ts) net none) in
    omega (arith, none, one_first t (take k ts) net, one_first t (take m ts) net, rest)

-- ---- what a worker reports

-- the turns of a worker among those of all, as something has them that says whose they are
turns_of_worker : {T : Type 0} (worker : T → ℕ) (kept : ℕ → ReportEntry → T) → ((v : ℕ) (e : ReportEntry) → worker (kept v e) ≡ v) →
    (w : ℕ) (log : List MadeTurn) → filter (λ u. worker u == w) (map (λ t. kept t.worker t.entry) log) ≡ map (kept w) (entries_of w log)
turns_of_worker worker kept own w [] = refl
turns_of_worker {T} worker kept own w (t ∷ ts) =
    let rest = turns_of_worker worker kept own w ts in
    let turns = filter (λ (u : T). worker u == w) (map (λ (v : MadeTurn). kept v.worker v.entry) ts) in
    let made = filter (λ (u : MadeTurn). u.worker == w) ts in
    let first = ap (λ (n : ℕ). n == w) (own t.worker t.entry) in
    elim (cases_eq t.worker w) [
      | inl is ↦
          let yes : (t.worker == w) ≡ true = eq-eqb t.worker w is in
          ap (λ b. cond b (kept t.worker t.entry ∷ turns) turns) (first ∙ yes)
          ∙ (ap (λ (n : ℕ). kept n t.entry ∷ turns) is ∙ ap (λ us. kept w t.entry ∷ us) rest)
          ∙ sym (ap (λ b. map (kept w) (map (λ u. u.entry) (cond b (t ∷ made) made))) yes)
      | inr apart ↦
          let no : (t.worker == w) ≡ false = ne_eqb t.worker w apart in
          ap (λ b. cond b (kept t.worker t.entry ∷ turns) turns) (first ∙ no) ∙ rest ∙ sym (ap (λ b. map (kept w) (map (λ u. u.entry) (cond b (t ∷ made) made))) no)
    ]

pub reports_turns : (w : ℕ) (log : List MadeTurn) → filter (λ t. t.worker == w) (map turn_in_book log) ≡ map (reported_turn w) (entries_of w log)
reports_turns w log = turns_of_worker (λ (t : Turn). t.worker) reported_turn (λ v e. refl) w log

schedules_turns : (w : ℕ) (log : List MadeTurn) → filter (λ t. t.worker == w) (map turn_in_schedule log) ≡ map (scheduled_turn w) (entries_of w log)
schedules_turns w log = turns_of_worker (λ (t : ScheduledTurn). t.worker) scheduled_turn (λ v e. refl) w log

-- one turn more is an entry more of its worker
pub entries_more : (w : ℕ) (log : List MadeTurn) (t : MadeTurn) → entries_of w (log ++ t ∷ []) ≡ entries_of w log ++ cond (t.worker == w) (t.entry ∷ []) []
entries_more w log t =
    let by = λ (u : MadeTurn). u.worker == w in
    ap (map (λ u. u.entry)) (filter-append by log (t ∷ []))
    ∙ (map-append (λ (u : MadeTurn). u.entry) (filter by log) (filter by (t ∷ [])) ∙ ap (λ es. entries_of w log ++ es) (last (t.worker == w)))
  where
    last : (b : Bool) → map (λ (u : MadeTurn). u.entry) (cond b (t ∷ []) []) ≡ cond b (t.entry ∷ []) []
    last true = refl
    last false = refl

-- ---- the whole iteration
module _ (p : Plan) (log : List MadeTurn) (legal : IsLegal p log) (c : Content) (sound : IsSound c) (within : IsOfIteration p.opening c)
    (lists : c.lists ≡ lists_after p.opening.lists log) (turns : c.turns ≡ map turn_in_book log) (once : NameEachOnce (net_count c) c.turns) where
  nets : net_count c ≡ net_count p.opening
  nets = ap (λ (q : RoutingProblem). length q.nets) within.problem

  there : All (λ t. t.entry.net < length p.opening.lists) log
  there k d low =
      let f = legal.each k d low in
      omega (arith, f.net, nets, sound.one_each, ap length lists, lists_len p.opening.lists log)

  few : (net : ℕ) → turns_for net log ≤ 1
  few net =
      let one : turns_for net log ≡ one_if (nat_lt net (net_count c)) = sym (turns_are net log) ∙ (sym (ap (λ ts. turns_at ts net) turns) ∙ once net) in
      grind (arith, nat_tests, one)

  all_given : AreGiven c.lists log
  all_given = subst (λ ls. AreGiven ls log) (sym lists) (given p.opening.lists log there few)

  -- the book of the iteration after its first turns
  after_is : (m : ℕ) → lists_after p.opening.lists (take m log) ≡ lists_turned p.opening.lists c.lists (take m c.turns)
  after_is m = lists_given p.opening.lists c.lists log m all_given ∙ ap (λ ts. lists_turned p.opening.lists c.lists (take m ts)) (sym turns)

  all_found : All (λ t. IsFound p.opening c p.present p.bb t.entry) log
  unfolding IsFound IsFoundAfter
  all_found k d low =
      let t = get_or log k d in
      let f = legal.each k d low in
      let n : length (take k log) ≡ k = length-take-le k log (omega (arith, low)) in
      let seen : t.entry.seen ≤ k = omega (arith, f.seen, n) in
      let all : length c.turns ≡ length log = ap length turns ∙ length-map log turn_in_book in
      let none : turns_at (take t.entry.seen c.turns) t.entry.net ≡ 0 =
      ap (λ ts. turns_at (take t.entry.seen ts) t.entry.net) turns
      ∙ (ap (λ ts. turns_at ts t.entry.net) (take-map turn_in_book t.entry.seen log)
      ∙ (turns_are t.entry.net (take t.entry.seen log) ∙ none_sooner log t.entry.seen k t.entry.net seen f.once)) in
      let first : lists_after p.opening.lists (take t.entry.seen (take k log)) ≡ lists_turned p.opening.lists c.lists (take t.entry.seen c.turns) =
      ap (lists_after p.opening.lists) (take-take t.entry.seen k log seen) ∙ after_is t.entry.seen in
      ((omega (arith, seen, all, low), none), subst (λ (ls : Lists). IsFoundIn (space_of p.opening.problem t.entry.net (view_of (record p.opening { lists = ls }) t.entry.net) p.present p.bb) t.entry.tree) first f.found)

  pub are_found : (w : ℕ) → AreFound p.opening c p.present p.bb (entries_of w log)
  are_found w =
      let P = IsFound p.opening c p.present p.bb in
      All-map P (λ (t : MadeTurn). t.entry) (filter (λ t. t.worker == w) log) (All-filter (λ (t : MadeTurn). t.worker == w) (λ t. P t.entry) log all_found)

  pub is_report : (w : ℕ) → IsReportOf c w (entries_of w log)
  is_report w = record {
    turns = ap (filter (λ (t : Turn). t.worker == w)) turns ∙ reports_turns w log;
    recorded = All-map (IsRecorded c) (λ (t : MadeTurn). t.entry) (filter (λ t. t.worker == w) log) (All-filter (λ (t : MadeTurn). t.worker == w) (λ t. IsRecorded c t.entry) log all_given);
  }

  pub workers_known : All (λ t. t.worker < p.workers) log
  workers_known k d low = (legal.each k d low).worker

-- the iteration's reports are those of its workers, each with what it made
pub agrees_by : (opening new : Content) (present bb workers : ℕ) (log : List MadeTurn) (reports : List (List ReportEntry)) →
    IsLegal (plan_of opening present bb workers) log → IsSound new → IsOfIteration opening new →
    new.lists ≡ lists_after opening.lists log → new.turns ≡ map turn_in_book log → NameEachOnce (net_count new) new.turns →
    ((i : ℕ) → holder_in new.holders i ≡ None) → length reports ≡ workers → All (λ t. t.worker < workers) new.turns →
    ((w : ℕ) → w < workers → get_or reports w [] ≡ entries_of w log) → Agrees opening new present bb workers reports
agrees_by opening new present bb workers log reports legal sound within lists turns once free count known each =
    let p = plan_of opening present bb workers in
    record {
      within = within;
      once = once;
      free = free;
      count = count;
      known = known;
      reported = λ w low. subst (IsReportOf new w) (sym (each w low)) (is_report p log legal new sound within lists turns once w);
      found = λ k d low.
          let here : get_or reports k d ≡ entries_of k log = sym (get_or_default reports k [] d low) ∙ each k (omega (arith, low, count)) in
          subst (AreFound opening new present bb) (sym here) (are_found p log legal new sound within lists turns once k);
    }

-- ---- the schedule of an iteration

-- the turns as a schedule has them are those of the book
schedules_workers : (log : List MadeTurn) → map (λ t. t.worker) (map turn_in_schedule log) ≡ map (λ t. t.worker) (map turn_in_book log)
schedules_workers [] = refl
schedules_workers (t ∷ ts) = ap (λ us. t.worker ∷ us) (schedules_workers ts)

schedules_nets : (log : List MadeTurn) → map (λ t. t.net) (map turn_in_schedule log) ≡ map (λ t. t.net) (map turn_in_book log)
schedules_nets [] = refl
schedules_nets (t ∷ ts) = ap (λ us. t.entry.net ∷ us) (schedules_nets ts)

pub schedule_by : (new : Content) (workers : ℕ) (log : List MadeTurn) (reports : List (List ReportEntry)) → new.turns ≡ map turn_in_book log →
    length reports ≡ workers → ((w : ℕ) → w < workers → get_or reports w [] ≡ entries_of w log) → IsScheduleOf new reports (map turn_in_schedule log)
schedule_by new workers log reports turns count each = record {
  workers = schedules_workers log ∙ sym (ap (map (λ (t : Turn). t.worker)) turns);
  nets = schedules_nets log ∙ sym (ap (map (λ (t : Turn). t.net)) turns);
  reported = λ w low. schedules_turns w log ∙ sym (ap (map (scheduled_turn w)) (each w (omega (arith, low, count))));
}
