-- Draws, turns and closes keep each net's turns in order.
use Rattle.std.proofs.Common.{◌≡◌, inl, inr, ℕ, zero, suc, ◌+◌, ◌<◌, ◌≤◌, nat_lt, List, [], ◌∷◌, ◌++◌, length, Option, Some, None, is_some, Bool, true, false, get_or, set, refl, sym, ap, subst, vec_capacity, ◌∙◌, arith, length-set, length-append, get_or-set_other}
use Rattle.std.proofs.lemmas.Bool.{cases_eq, cases_lt, both_ways}
use Rattle.std.proofs.lemmas.Bool.Decides.{nat_tests}
use Rattle.std.proofs.lemmas.Grind.{get_or-set_at}
use Rattle.std.proofs.lemmas.List.Sums.{sum_by-set}
use Rattle.std.proofs.lemmas.List.{length-replicate}
use Rattle.std.proofs.lemmas.List.Elements.{All-append, All-cons, All-nil}
use Rattle.std.specs.Prelude.{count_by, replicate}
use Rattle.congestion_book.specs.declared.turns.Turns.TheInside.{Inside}
use Rattle.congestion_book.specs.kept.Fields.{table_of, AreTurns}
use Rattle.congestion_book.specs.Turns.{TurnTable, AreInOrder, IsFirstWaiting, NameEachOnce, holder_in, turns_at, one_if}
use Rattle.congestion_book.specs.kept.TurnTables.{table_drawn, table_closed}

-- how many are held after one entry changes
pub count-set : (xs : List (Option ℕ)) (i : ℕ) (y : Option ℕ) → i < length xs →
    count_by is_some (set xs i y) + one_if (is_some (get_or xs i None)) ≡ count_by is_some xs + one_if (is_some y)
count-set xs i y h = sum_by-set (λ (o : Option ℕ). one_if (is_some o)) xs i y None h

-- a net that was not drawn is not held
none_undrawn : (t : TurnTable) (i : ℕ) → AreInOrder t → t.drawn ≤ i → one_if (is_some (holder_in t.holders i)) ≡ 0
none_undrawn t i s h = let o = s.once i in grind (arith, nat_tests)

drawn_once : (hs : List (Option ℕ)) (d t w i : ℕ) → d < length hs → one_if (is_some (get_or hs i None)) + t ≡ one_if (nat_lt i d) →
    one_if (is_some (get_or (set hs d (Some w)) i None)) + t ≡ one_if (nat_lt i (d + 1))
drawn_once hs d t w i h o =
    elim (cases_eq i d) [
      | inl e ↦ rw (get_or-set_at hs d i (Some w) None e h) (grind (arith, nat_tests))
      | inr n ↦ rw (get_or-set_other hs d i (Some w) None n) (grind (arith, nat_tests))
    ]

pub draw_in_order : (t : TurnTable) (w : ℕ) → AreInOrder t → t.drawn < length t.holders → AreInOrder (table_drawn t w)
draw_in_order t w s h =
    let more = length-set t.holders t.drawn (Some w) in
    record {
      drawn = omega (arith, more, h);
      once = λ i. drawn_once t.holders t.drawn (turns_at t.turns i) w i h (s.once i);
      closed = rw more s.closed;
    }

pub draw_all : (t : TurnTable) (w : ℕ) → AreInOrder t → t.drawn < length t.holders → count_by is_some t.holders + length t.turns ≡ t.drawn →
    count_by is_some (set t.holders t.drawn (Some w)) + length t.turns ≡ t.drawn + 1
draw_all t w s h all =
    let free = none_undrawn t t.drawn s (omega arith) in
    let more = count-set t.holders t.drawn (Some w) h in
    omega (arith, free, more, all)

-- a net that is held is there
pub held_within : (xs : List (Option ℕ)) (i w : ℕ) → get_or xs i None ≡ Some w → i < length xs
held_within [] i w h = cc
held_within (x ∷ xs) zero w h = omega arith
held_within (x ∷ xs) (suc i) w h = let below = held_within xs i w h in omega arith

module _ (t : TurnTable) (w i : ℕ) (passed : Bool) (s : AreInOrder t) (held : holder_in t.holders i ≡ Some w) where
  within : i < length t.holders
  within = held_within t.holders i w held

  here : one_if (is_some (holder_in t.holders i)) ≡ 1
  here = rw held refl

-- ---- who waits
free_turned : (t : TurnTable) (i : ℕ) → AreInOrder t → i < t.drawn → holder_in t.holders i ≡ None → turns_at t.turns i ≡ 1
free_turned t i s low free =
    let none : one_if (is_some (holder_in t.holders i)) ≡ 0 = rw free refl in
    let once = s.once i in
    grind (arith, nat_tests)

held_waits : (t : TurnTable) (i : ℕ) (o : Option ℕ) → AreInOrder t → i < t.drawn → holder_in t.holders i ≡ o → is_some o ≡ true → turns_at t.turns i ≡ 0
held_waits t i None s low is some = absurd (both_ways false refl some)
held_waits t i (Some w) s low is some =
    let one : one_if (is_some (holder_in t.holders i)) ≡ 1 = rw is refl in
    let once = s.once i in
    grind (arith, nat_tests)

undrawn_waits : (t : TurnTable) (i : ℕ) → AreInOrder t → t.drawn ≤ i → turns_at t.turns i ≡ 0
undrawn_waits t i s past = let once = s.once i in grind (arith, nat_tests)

module _ (t : TurnTable) (s : AreInOrder t) where
  pub waits_held : (i : ℕ) → i < t.drawn → ((k : ℕ) → k < i → holder_in t.holders k ≡ None) → is_some (holder_in t.holders i) ≡ true →
      IsFirstWaiting t.turns (length t.holders) (Some i)
  waits_held i low free some = (
    omega (arith, low, s.drawn),
    held_waits t i (holder_in t.holders i) s low refl some,
    λ j lt. free_turned t j s (omega (arith, lt, low)) (free j lt),
  )

  pub waits_undrawn : t.drawn < length t.holders → ((k : ℕ) → k < t.drawn → holder_in t.holders k ≡ None) →
      IsFirstWaiting t.turns (length t.holders) (Some t.drawn)
  waits_undrawn more free = (more, undrawn_waits t t.drawn s (omega arith), λ j lt. free_turned t j s lt (free j lt))

  pub none_waits : length t.holders ≤ t.drawn → ((k : ℕ) → k < t.drawn → holder_in t.holders k ≡ None) →
      IsFirstWaiting t.turns (length t.holders) None
  none_waits all free = λ i lt. free_turned t i s (omega (arith, lt, all)) (free i (omega (arith, lt, all)))

-- ---- a close
waited : (t : TurnTable) (i : ℕ) → AreInOrder t → IsFirstWaiting t.turns (length t.holders) None → turns_at t.turns i ≡ one_if (nat_lt i (length t.holders))
waited t i s done = elim (cases_lt i (length t.holders)) [
  | inl low ↦ let e = done i low in grind (arith, nat_tests)
  | inr past ↦ let e = undrawn_waits t i s (omega (arith, past, s.drawn)) in grind (arith, nat_tests)
]

pub none_held : (nets i : ℕ) → holder_in (replicate nets None) i ≡ None
none_held zero i = refl
none_held (suc n) zero = refl
none_held (suc n) (suc i) = none_held n i

pub none_counted : (nets : ℕ) → count_by is_some (replicate {A = Option ℕ} nets None) ≡ 0
none_counted zero = refl
none_counted (suc n) = none_counted n

pub close_in_order : (t : TurnTable) → AreInOrder t → IsFirstWaiting t.turns (length t.holders) None → AreInOrder (table_closed t)
close_in_order t s done =
    let same : length (replicate {A = Option ℕ} (length t.holders) None) ≡ length t.holders = length-replicate (length t.holders) None in
    let Each = NameEachOnce (length t.holders) in
    record {
      drawn = omega arith;
      once = λ i. rw (none_held (length t.holders) i) (grind (arith, nat_tests));
      closed = rw same (All-append Each t.earlier (t.turns ∷ []) s.closed (All-cons Each t.turns [] (λ i. waited t i s done) (All-nil Each)));
    }

-- the fields of the next iteration
pub opened : (old new : Inside) → AreTurns old → IsFirstWaiting old.made.items (length old.holders.items) None → length old.earlier.items < 500 →
    new.drawn ≡ 0 → new.holders.items ≡ replicate (length old.holders.items) None → new.made.items ≡ [] →
    length old.holders.items ≤ vec_capacity new.made → new.earlier.items ≡ old.earlier.items ++ old.made.items ∷ [] →
    vec_capacity new.earlier ≡ vec_capacity old.earlier → AreTurns new
opened old new kept done few drawn holders made room earlier capacity =
    let t = table_of old in
    let is : table_closed t ≡ table_of new = λ i. record { drawn = sym drawn i; holders = sym holders i; turns = sym made i; earlier = sym earlier i } in
    let same : length new.holders.items ≡ length old.holders.items = ap length holders ∙ length-replicate (length old.holders.items) None in
    let none : count_by is_some new.holders.items ≡ 0 = ap (count_by is_some) holders ∙ none_counted (length old.holders.items) in
    let empty : length new.made.items ≡ 0 = ap length made in
    let longer : length new.earlier.items ≡ length old.earlier.items + 1 = ap length earlier ∙ length-append old.earlier.items (old.made.items ∷ []) in
    record {
      order = subst AreInOrder is (close_in_order t kept.order done);
      all = omega (arith, none, empty, drawn);
      few_nets = rw same kept.few_nets;
      room = rw same room;
      few = omega (arith, longer, few);
      more = rw capacity kept.more;
    }
