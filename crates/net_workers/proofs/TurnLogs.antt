-- What turns do to the lists of the nets, which nets had one, and the pages of a history.
use Rattle.std.proofs.Common.{◌≡◌, ℕ, ◌+◌, ◌-◌, ◌<◌, ◌≤◌, ◌==◌, Bool, true, false, cond, List, [], ◌∷◌, ◌++◌, length, take, get_or, set, None, refl, sym, ap, subst, ◌∙◌, arith, inl, inr, length-set, length-append, length-take-le, get_or-set_other, eq-eqb}
use Rattle.std.specs.Prelude.{replicate, map}
use Rattle.std.proofs.lemmas.Bool.{cases_lt, cases_eq}
use Rattle.std.proofs.lemmas.Bool.Decides.{nat_tests}
use Rattle.std.proofs.lemmas.Grind.{get_or-set_at}
use Rattle.std.proofs.lemmas.List.{take_at, take-take, get_or_at, get_or_past, length-replicate, get_or-replicate}
use Rattle.std.proofs.lemmas.List.Sums.{sum_by_push, sum_by-cons}
use mathlib.Core.List.{IsPrefix}
use Rattle.route_tree.specs.TreeLists.{list_of_tree}
use Rattle.route_tree.specs.Usage.{Lists, list_in}
use Rattle.congestion_book.specs.declared.turn.Turn.{Turn}
use Rattle.congestion_book.specs.Turns.{turns_at, one_if}
use Rattle.congestion_book.specs.Contents.{net_count}
use Rattle.net_workers.specs.declared.made_turn.MadeTurn.{MadeTurn}
use Rattle.net_workers.specs.kept.TurnLogs.{Plan, lists_after, turns_for, turn_in_book, Follows, IsLegal, IsFoundAfter}
use Rattle.net_workers.specs.kept.Pages.{before_last, IsPage, IsNext, IsSearched, AreTurned}

-- ---- lists
pub lists_len : (lists : Lists) (log : List MadeTurn) → length (lists_after lists log) ≡ length lists
lists_len lists [] = refl
lists_len lists (t ∷ ts) = lists_len (set lists t.entry.net (list_of_tree t.entry.tree)) ts ∙ length-set lists t.entry.net (list_of_tree t.entry.tree)

-- one turn more
pub lists_more : (lists : Lists) (log : List MadeTurn) (t : MadeTurn) →
    lists_after lists (log ++ t ∷ []) ≡ set (lists_after lists log) t.entry.net (list_of_tree t.entry.tree)
lists_more lists [] t = refl
lists_more lists (u ∷ ts) t = lists_more (set lists u.entry.net (list_of_tree u.entry.tree)) ts t

pub one_first : (t : MadeTurn) (ts : List MadeTurn) (net : ℕ) → turns_for net (t ∷ ts) ≡ one_if (t.entry.net == net) + turns_for net ts
one_first t ts net = sum_by-cons (λ (u : MadeTurn). one_if (u.entry.net == net)) t ts

pub own_first : (t : MadeTurn) (ts : List MadeTurn) → turns_for t.entry.net (t ∷ ts) ≡ 1 + turns_for t.entry.net ts
own_first t ts =
    let one : one_if (t.entry.net == t.entry.net) ≡ 1 = ap one_if (eq-eqb t.entry.net t.entry.net refl) in
    omega (arith, one, one_first t ts t.entry.net)

pub fewer : (t : MadeTurn) (ts : List MadeTurn) (net : ℕ) → turns_for net ts ≤ turns_for net (t ∷ ts)
fewer t ts net = omega (arith, one_first t ts net)

pub none_first : (t : MadeTurn) (ts : List MadeTurn) (net : ℕ) → turns_for net (t ∷ ts) ≡ 0 → turns_for net ts ≡ 0
none_first t ts net none = omega (arith, none, one_first t ts net)

-- a net that had no turn has its opening list
pub kept_list : (lists : Lists) (log : List MadeTurn) (net : ℕ) → turns_for net log ≡ 0 → list_in (lists_after lists log) net ≡ list_in lists net
kept_list lists [] net none = refl
kept_list lists (t ∷ ts) net none =
    let rest = none_first t ts net none in
    elim (cases_eq net t.entry.net) [
      | inl e ↦
          let here : turns_for net (t ∷ ts) ≡ 1 + turns_for net ts = subst (λ n. turns_for n (t ∷ ts) ≡ 1 + turns_for n ts) (sym e) (own_first t ts) in
          absurd (omega (arith, here, none))
      | inr n ↦
          kept_list (set lists t.entry.net (list_of_tree t.entry.tree)) ts net rest
          ∙ get_or-set_other lists t.entry.net net (list_of_tree t.entry.tree) None n
    ]

-- the turns at a net, as the book has them
pub turns_are : (net : ℕ) (log : List MadeTurn) → turns_at (map turn_in_book log) net ≡ turns_for net log
turns_are net [] = refl
turns_are net (t ∷ ts) =
    omega (
      arith,
      turns_are net ts,
      one_first t ts net,
      sum_by-cons (λ (u : Turn). one_if (u.net == net)) (turn_in_book t) (map turn_in_book ts),
    )

-- ---- which nets had a turn
not_one : (b : Bool) → one_if b ≡ 0 → b ≡ false
not_one true h = absurd (omega arith)
not_one false h = refl

pub open_none : (p : Plan) (turned : List Bool) (log : List MadeTurn) (net : ℕ) → AreTurned p turned log → get_or turned net false ≡ false → turns_for net log ≡ 0
open_none p turned log net d free = d.once net ∙ ap one_if free

still_open : (p : Plan) (turned : List Bool) (log : List MadeTurn) (t : MadeTurn) → AreTurned p turned log → Follows p log t → get_or turned t.entry.net false ≡ false
still_open p turned log t d f = not_one (get_or turned t.entry.net false) (sym (d.once t.entry.net) ∙ f.once)

once_more : (turned : List Bool) (log : List MadeTurn) (t : MadeTurn) (net : ℕ) → t.entry.net < length turned → get_or turned t.entry.net false ≡ false
    → turns_for net log ≡ one_if (get_or turned net false) → turns_for net (log ++ t ∷ []) ≡ one_if (get_or (set turned t.entry.net true) net false)
once_more turned log t net h free once =
    let more = sum_by_push (λ (u : MadeTurn). cond (u.entry.net == net) 1 0) log t in
    elim (cases_eq net t.entry.net) [
      | inl e ↦ rw (get_or-set_at turned t.entry.net net true false e h) (grind (arith, nat_tests))
      | inr n ↦ rw (get_or-set_other turned t.entry.net net true false n) (grind (arith, nat_tests))
    ]

pub turned_more : (p : Plan) (turned : List Bool) (log : List MadeTurn) (t : MadeTurn) → AreTurned p turned log → Follows p log t →
    AreTurned p (set turned t.entry.net true) (log ++ t ∷ [])
turned_more p turned log t d f = record {
  all = length-set turned t.entry.net true ∙ d.all;
  once = λ net. once_more turned log t net (omega (arith, d.all, f.net)) (still_open p turned log t d f) (d.once net);
}

none_true : (n net : ℕ) → get_or (replicate n false) net false ≡ false
none_true n net =
    elim (cases_lt net n) [
      | inl below ↦ get_or-replicate n net false false below
      | inr past ↦ get_or_past (replicate n false) net false (omega (arith, length-replicate n false))
    ]

pub none_turned : (p : Plan) → AreTurned p (replicate (net_count p.opening) false) []
none_turned p = record {
  all = length-replicate (net_count p.opening) false;
  once = λ net. sym (ap one_if (none_true (net_count p.opening) net));
}

-- ---- pages
pub prefix_take : (v log : List MadeTurn) → IsPrefix v log → take (length v) log ≡ v
prefix_take v log pre = ap (take (length v)) (sym pre.1) ∙ take_at v pre.0 (length v) refl

-- a page whose history is one longer than a beginning of it
pub next_page : (p : Plan) (v log : List MadeTurn) (t : MadeTurn) → IsPrefix v log → length v + 1 ≡ length log → IsPage log t → IsLegal p log → IsNext p v t log
next_page p v log t pre len page legal =
    let small : length log - 1 < length log = omega (arith, len) in
    let vn : length log - 1 ≡ length v = omega (arith, len) in
    let v_is : before_last log ≡ v = ap (λ (k : ℕ). take k log) vn ∙ prefix_take v log pre in
    let at : get_or log (length log - 1) t ≡ t =
    ap (λ (l : List MadeTurn). get_or l (length log - 1) t) page ∙ get_or_at (before_last log) t [] t (length log - 1) (length-take-le (length log - 1) log (omega arith)) in
    record {
      one_more = page ∙ ap (λ (w : List MadeTurn). w ++ t ∷ []) v_is;
      follows = subst (λ (w : List MadeTurn). Follows p w t) v_is (subst (λ (u : MadeTurn). Follows p (before_last log) u) at (legal.each (length log - 1) t small));
    }

-- the page of a turn that was added
pub new_page : (before log : List MadeTurn) (t : MadeTurn) → log ≡ before ++ t ∷ [] → IsPage log t
new_page before log t more =
    let n : length log - 1 ≡ length before = omega (arith, ap length more ∙ length-append before (t ∷ [])) in
    let b : before_last log ≡ before = ap (λ (k : ℕ). take k log) n ∙ (ap (take (length before)) more ∙ take_at before (t ∷ []) (length before) refl) in
    more ∙ ap (λ (w : List MadeTurn). w ++ t ∷ []) (sym b)

-- the turn of a page is the last of its history, with which the history of all begins
pub page_at : (log all : List MadeTurn) (t : MadeTurn) (n : ℕ) → IsPage log t → IsPrefix log all → 0 < length log → length log - 1 ≡ n →
    take (n + 1) all ≡ take n all ++ t ∷ []
page_at log all t n page pre some at =
    let len : n + 1 ≡ length log = omega (arith, some, at) in
    let whole : take (n + 1) all ≡ log = ap (λ (k : ℕ). take k all) len ∙ prefix_take log all pre in
    let front : take n all ≡ before_last log = sym (take-take n (n + 1) all (omega arith)) ∙ (ap (take n) whole ∙ ap (λ (k : ℕ). take k log) (sym at)) in
    whole ∙ (page ∙ ap (λ (w : List MadeTurn). w ++ t ∷ []) (sym front))

-- what was found after a beginning of the history may be made at its end
pub follows_now : (p : Plan) (seen log : List MadeTurn) (t : MadeTurn) → IsPrefix seen log → length seen ≤ length log → t.worker < p.workers →
    t.entry.seen ≡ length seen → turns_for t.entry.net log ≡ 0 → IsSearched p t.entry.net t.entry.tree seen → Follows p log t
follows_now p seen log t pre less known at once found =
    let same : take t.entry.seen log ≡ seen = ap (λ (k : ℕ). take k log) at ∙ prefix_take seen log pre in
    record {
      worker = known;
      net = found.there;
      once = once;
      seen = omega (arith, at, less);
      found = subst (λ (l : List MadeTurn). IsFoundAfter p l t.entry.net t.entry.tree) (sym same) found.found;
      routes = found.routes;
    }
