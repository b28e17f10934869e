-- What is taken off a text.
use Rattle.std.proofs.Common.{◌≡◌, ◌≢◌, ℕ, ◌+◌, ◌<◌, ◌≤◌, ◌^◌, false, not, List, [], ◌∷◌, ◌++◌, length, take, drop, get_or, None, Some, decimal, refl, sym, ap, subst, ◌∙◌, append_assoc, arith}
use Rattle.std.specs.Prelude.{position}
use Rattle.std.proofs.lemmas.Bool.{eqb-true, false≢true, not_from_false}
use Rattle.std.proofs.lemmas.Fmt.{decimal_injective}
use Rattle.std.proofs.lemmas.List.{append_cancel_left, drop_at, take_at, take-append-drop}
use Rattle.std.proofs.lemmas.Option.{none-some, same_Some}
use Rattle.vpr_text.specs.Numbers.{is_digit}
use Rattle.gates.specs.declared.schedule.ScheduledTurn.{ScheduledTurn}
use Rattle.run_schedule.specs.Lines.{is_line_feed, IsInLine, line_text}
use Rattle.run_schedule.specs.kept.Taking.{ended_text, IsAny, IsReadable, IsWithin, IsWord, numbered_line, Passes, Takes}
use Rattle.run_schedule.specs.ScheduleTexts.{turn_text}
use Rattle.run_schedule.proofs.Fronts.{at_first, first_is}
use Rattle.run_schedule.proofs.Numbers.{no_others}

-- nothing is taken where the text begins with that of no value
pub takes_none : {X : Type 0} {IsValid : X → Type 0} {text_of : X → List ℕ} {old new : List ℕ} → ((x : X) (later : List ℕ) → IsValid x → old ≡ text_of x ++ later → ⊥) → Takes IsValid text_of old new None
takes_none never = record { found = tt; only = λ x later valid e. absurd (never x later valid e) }

-- ---- a front

pub front_taken : (old front new : List ℕ) → old ≡ front ++ new → Takes {X = Unit {0}} IsAny (λ _. front) old new (Some tt)
front_taken old front new is = record {
  found = (tt, is);
  only = λ x later valid e. (refl, append_cancel_left front new later (sym is ∙ e));
}

pub front_missing : {old front new : List ℕ} → ((rest : List ℕ) → old ≢ front ++ rest) → Takes {X = Unit {0}} IsAny (λ _. front) old new None
front_missing never = takes_none (λ x later valid is. never later is)

-- ---- numbers

module _ (end : ℕ) (apart : is_digit end ≡ false) (old : List ℕ) where
  -- where the digits of a number end that stands in front
  module _ (n : ℕ) (later : List ℕ) (small : IsWord n) (is : old ≡ ended_text end n ++ later) where
    whole : old ≡ decimal n ++ end ∷ later
    whole = is ∙ append_assoc (decimal n) (end ∷ []) later

    length_is : position (λ b. not (is_digit b)) old ≡ Some (length (decimal n))
    length_is =
        ap (position (λ b. not (is_digit b))) whole ∙ at_first (λ b. not (is_digit b)) (decimal n) end later (no_others n small) (not_from_false (is_digit end) apart)

    parts : (i : ℕ) → position (λ b. not (is_digit b)) old ≡ Some i → (take i old ≡ decimal n) × (drop i old ≡ end ∷ later)
    parts i found =
        let e : length (decimal n) ≡ i = same_Some (length (decimal n)) i (sym length_is ∙ found) in
        (ap (take i) whole ∙ take_at (decimal n) (end ∷ later) i e, ap (drop i) whole ∙ drop_at (decimal n) (end ∷ later) i e)

  module _ {new : List ℕ} where
    pub no_end : position (λ b. not (is_digit b)) old ≡ None → Takes IsWord (ended_text end) old new None
    no_end none = takes_none (λ n later small is. none-some (length (decimal n)) (sym none ∙ length_is n later small is))

    module _ (i : ℕ) (found : position (λ b. not (is_digit b)) old ≡ Some i) where
      pub no_number : ((n : ℕ) → IsWord n → take i old ≡ decimal n → ⊥) → Takes IsWord (ended_text end) old new None
      no_number never = takes_none (λ n later small is. never n small (parts n later small is i found).0)

      pub other_end : ((rest : List ℕ) → drop i old ≢ end ∷ [] ++ rest) → Takes IsWord (ended_text end) old new None
      other_end never = takes_none (λ n later small is. never later (parts n later small is i found).1)

      pub number_taken : (n : ℕ) → IsWord n → take i old ≡ decimal n → drop i old ≡ end ∷ [] ++ new → Takes IsWord (ended_text end) old new (Some n)
      number_taken n small digits rest =
          let whole : old ≡ ended_text end n ++ new =
          sym (take-append-drop i old) ∙ (ap (λ (t : List ℕ). t ++ drop i old) digits ∙ (ap (λ (t : List ℕ). decimal n ++ t) rest ∙ sym (append_assoc (decimal n) (end ∷ []) new))) in
          record {
            found = (small, whole);
            only = λ m later fits is.
                let p = parts m later fits is i found in
                let same : m ≡ n = decimal_injective m n (omega (arith, fits)) (omega (arith, small)) (sym p.0 ∙ digits) in
                (ap Some (sym same), append_cancel_left (end ∷ []) new later (sym rest ∙ p.1));
          }

-- ---- lines

-- no line is passed where none stands
passes_none : {X : Type 0} {IsValid : X → Type 0} {text_of : X → List ℕ} {old new : List ℕ} → ((x : X) (later : List ℕ) → IsValid x → old ≡ text_of x ++ later → ⊥) → Passes IsValid text_of old new None
passes_none never = record { found = λ some. absurd (false≢true some); only = λ x later valid e. absurd (never x later valid e) }

module _ (front old : List ℕ) where
  -- a line that stands in front, behind what it begins with
  line_split : (value later : List ℕ) → old ≡ line_text front value ++ later → old ≡ front ++ (value ++ 10 ∷ later)
  line_split value later is = is ∙ (append_assoc front (value ++ 10 ∷ []) later ∙ ap (λ (t : List ℕ). front ++ t) (append_assoc value (10 ∷ []) later))

  pub no_front : {new : List ℕ} → ((rest : List ℕ) → old ≢ front ++ rest) → Passes IsInLine (line_text front) old new None
  no_front never = passes_none (λ value later inside is. never (value ++ 10 ∷ later) (line_split value later is))

  module _ (line : List ℕ) (split : old ≡ front ++ line) where
    line_is : (value later : List ℕ) → old ≡ line_text front value ++ later → line ≡ value ++ 10 ∷ later
    line_is value later is = append_cancel_left front line (value ++ 10 ∷ later) (sym split ∙ line_split value later is)

    ends_at : (value later : List ℕ) → IsInLine value → old ≡ line_text front value ++ later → position is_line_feed line ≡ Some (length value)
    ends_at value later inside is = ap (position is_line_feed) (line_is value later is) ∙ at_first is_line_feed value 10 later inside refl

    pub no_line : {new : List ℕ} → position is_line_feed line ≡ None → Passes IsInLine (line_text front) old new None
    no_line none = passes_none (λ value later inside is. none-some (length value) (sym none ∙ ends_at value later inside is))

    pub line_passed : (i : ℕ) → position is_line_feed line ≡ Some i → Passes IsInLine (line_text front) old (drop (i + 1) line) (Some tt)
    line_passed i found =
        let first = first_is is_line_feed line i found 0 in
        let rest = drop (i + 1) line in
        let whole : line ≡ take i line ++ 10 ∷ rest = subst (λ b. line ≡ take i line ++ b ∷ rest) (eqb-true (get_or line i 0) 10 first.2) first.1 in
        record {
          found = λ some. (take i line, first.0, split ∙ (ap (λ (t : List ℕ). front ++ t) (whole ∙ sym (append_assoc (take i line) (10 ∷ []) rest)) ∙ sym (append_assoc front (take i line ++ 10 ∷ []) rest)));
          only = λ value later inside is.
              let at : length value ≡ i = same_Some (length value) i (sym (ends_at value later inside is) ∙ found) in
              let e = line_is value later is in
              let value-is : take i line ≡ value = ap (take i) e ∙ take_at value (10 ∷ later) i at in
              let rest-is : 10 ∷ rest ≡ 10 ∷ later = append_cancel_left value (10 ∷ rest) (10 ∷ later) (ap (λ (t : List ℕ). t ++ 10 ∷ rest) (sym value-is) ∙ (sym whole ∙ e)) in
              (refl, append_cancel_left (10 ∷ []) rest later rest-is);
        }

-- ---- numbers on lines

module _ (front old : List ℕ) (least most : ℕ) (limit : most < 2 ^ 32) where
  within_split : (n : ℕ) (later : List ℕ) → old ≡ numbered_line front n ++ later → old ≡ front ++ (ended_text 10 n ++ later)
  within_split n later is = is ∙ append_assoc front (ended_text 10 n) later

  pub no_such_line : {mid new : List ℕ} → Takes {X = Unit {0}} IsAny (λ _. front) old mid None → Takes (IsWithin least most) (numbered_line front) old new None
  no_such_line none = takes_none (λ n later fits is. none-some tt (none.only tt _ tt (within_split n later is)).0)

  module _ {behind_front : List ℕ} (begun : Takes {X = Unit {0}} IsAny (λ _. front) old behind_front (Some tt)) where
    number_is : (n : ℕ) (later : List ℕ) → old ≡ numbered_line front n ++ later → behind_front ≡ ended_text 10 n ++ later
    number_is n later is = (begun.only tt _ tt (within_split n later is)).1

    pub no_such_number : {mid new : List ℕ} → Takes IsWord (ended_text 10) behind_front mid None → Takes (IsWithin least most) (numbered_line front) old new None
    no_such_number none = takes_none (λ n later fits is. none-some n (none.only n later (omega (arith, fits.1, limit)) (number_is n later is)).0)

    module _ {mid : List ℕ} {k : ℕ} (number : Takes IsWord (ended_text 10) behind_front mid (Some k)) where
      found_is : (n : ℕ) (later : List ℕ) → n ≤ most → old ≡ numbered_line front n ++ later → (k ≡ n) × (mid ≡ later)
      found_is n later fits is = let o = number.only n later (omega (arith, fits, limit)) (number_is n later is) in (same_Some k n o.0, o.1)

      pub number_outside : {new : List ℕ} → (IsWithin least most k → ⊥) → Takes (IsWithin least most) (numbered_line front) old new None
      number_outside never = takes_none (λ n later fits is. never (subst (IsWithin least most) (sym (found_is n later fits.1 is).0) fits))

      pub number_within : IsWithin least most k → Takes (IsWithin least most) (numbered_line front) old mid (Some k)
      number_within fits = record {
        found = (fits, begun.found.1 ∙ ap (λ (t : List ℕ). front ++ t) number.found.1 ∙ sym (append_assoc front (ended_text 10 k) mid));
        only = λ n later valid is. let o = found_is n later valid.1 is in (ap Some o.0, o.1);
      }

-- ---- turns

turn_split : (t : ScheduledTurn) (later : List ℕ) → turn_text t ++ later ≡ ended_text 32 t.net ++ (ended_text 32 t.worker ++ (ended_text 10 t.seen ++ later))
unfolding turn_text
turn_split t later =
    let seen : (decimal t.seen ++ 10 ∷ []) ++ later ≡ ended_text 10 t.seen ++ later = refl in
    let worker : (decimal t.worker ++ 32 ∷ (decimal t.seen ++ 10 ∷ [])) ++ later ≡ ended_text 32 t.worker ++ (ended_text 10 t.seen ++ later) =
    append_assoc (decimal t.worker) (32 ∷ (decimal t.seen ++ 10 ∷ [])) later ∙ sym (append_assoc (decimal t.worker) (32 ∷ []) (ended_text 10 t.seen ++ later)) in
    append_assoc (decimal t.net) (32 ∷ (decimal t.worker ++ 32 ∷ (decimal t.seen ++ 10 ∷ []))) later
    ∙ ap (λ (s : List ℕ). decimal t.net ++ 32 ∷ s) worker
    ∙ sym (append_assoc (decimal t.net) (32 ∷ []) (ended_text 32 t.worker ++ (ended_text 10 t.seen ++ later)))

module _ {old : List ℕ} where
  pub no_net : {mid new : List ℕ} → Takes IsWord (ended_text 32) old mid None → Takes IsReadable turn_text old new None
  no_net net = takes_none (λ t later fits is. none-some t.net (net.only t.net _ fits.net (is ∙ turn_split t later)).0)

  module _ {behind_net : List ℕ} {n : ℕ} (net : Takes IsWord (ended_text 32) old behind_net (Some n)) where
    -- what is left behind the net of a turn that stands in front
    net_is : (t : ScheduledTurn) (later : List ℕ) → IsReadable t → old ≡ turn_text t ++ later → (n ≡ t.net) × (behind_net ≡ ended_text 32 t.worker ++ (ended_text 10 t.seen ++ later))
    net_is t later fits is = let o = net.only t.net _ fits.net (is ∙ turn_split t later) in (same_Some n t.net o.0, o.1)

    pub no_worker : {mid new : List ℕ} → Takes IsWord (ended_text 32) behind_net mid None → Takes IsReadable turn_text old new None
    no_worker worker = takes_none (λ t later fits is. none-some t.worker (worker.only t.worker _ fits.worker (net_is t later fits is).1).0)

    module _ {behind_worker : List ℕ} {w : ℕ} (worker : Takes IsWord (ended_text 32) behind_net behind_worker (Some w)) where
      worker_is : (t : ScheduledTurn) (later : List ℕ) → IsReadable t → old ≡ turn_text t ++ later → (w ≡ t.worker) × (behind_worker ≡ ended_text 10 t.seen ++ later)
      worker_is t later fits is = let o = worker.only t.worker _ fits.worker (net_is t later fits is).1 in (same_Some w t.worker o.0, o.1)

      pub no_seen : {mid new : List ℕ} → Takes IsWord (ended_text 10) behind_worker mid None → Takes IsReadable turn_text old new None
      no_seen seen = takes_none (λ t later fits is. none-some t.seen (seen.only t.seen _ fits.seen (worker_is t later fits is).1).0)

      pub turn_taken : {new : List ℕ} {s : ℕ} → Takes IsWord (ended_text 10) behind_worker new (Some s) → Takes IsReadable turn_text old new (Some (record { worker = w; net = n; seen = s }))
      turn_taken {new} {s} seen =
          let made : ScheduledTurn = record { worker = w; net = n; seen = s } in
          record {
            found = (
              record { net = net.found.0; worker = worker.found.0; seen = seen.found.0 },
              net.found.1 ∙ ap (λ (r : List ℕ). ended_text 32 n ++ r) (worker.found.1 ∙ ap (λ (r : List ℕ). ended_text 32 w ++ r) seen.found.1) ∙ sym (turn_split made new),
            );
            only = λ t later fits is.
                let o = seen.only t.seen later fits.seen (worker_is t later fits is).1 in
                let same : made ≡ t = λ i. record { worker = (worker_is t later fits is).0 i; net = (net_is t later fits is).0 i; seen = (same_Some s t.seen o.0) i } in
                (ap Some same, o.1);
          }
