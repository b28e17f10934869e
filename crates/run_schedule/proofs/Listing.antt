-- Items that are read one after the other, one at least, each by a text with its number.
use Rattle.std.proofs.Common.{◌≡◌, ℕ, ◌+◌, ◌≤◌, Bool, true, false, ◌||◌, List, [], ◌∷◌, ◌++◌, length, eqb, Ok, Err, inl, inr, refl, sym, ap, subst, ◌∙◌, append_assoc, arith}
use Rattle.std.proofs.lemmas.Bool.{eqb-true, false≢true, or_cases, or_parts}
use Rattle.std.proofs.lemmas.List.{append-nil, length_push}
use Rattle.run_schedule.specs.declared.fault.FaultKind.{FaultKind}
use Rattle.run_schedule.specs.declared.fault.FaultKind.TheVariants.{Memory}
use Rattle.run_schedule.specs.kept.Reading.{Reads}
use Rattle.run_schedule.proofs.Printed.{numbered_push}

-- a kind of list
pub record Listing (X : Type 0) : Type 1 where
  -- the text of an item with its number, and that of items, of which the first has a number
  pub text : ℕ → X → List ℕ
  pub texts : ℕ → List X → List ℕ
  pub texts_none : (n : ℕ) → texts n [] ≡ []
  pub texts_some : (n : ℕ) (x : X) (xs : List X) → texts n (x ∷ xs) ≡ text n x ++ texts (n + 1) xs
  -- an item with its number, all items, and what may follow the one and the others
  pub IsItem : ℕ → X → Type 0
  pub AreAll : List X → Type 0
  pub IsBehindItem : List ℕ → Type 0
  pub IsBehindAll : List ℕ → Type 0
  pub one_at_least : (xs : List X) → AreAll xs → 1 ≤ length xs
  pub each : (before : List X) (x : X) (later : List X) → AreAll (before ++ x ∷ later) → IsItem (length before + 1) x
  -- what an item begins with, and what is behind all doesn't
  pub at_item : List ℕ → Bool
  pub begins : (n : ℕ) (x : X) (later : List ℕ) → at_item (text n x ++ later) ≡ true
  pub ends : (later : List ℕ) → IsBehindAll later → at_item later ≡ false
  pub behind : (later : List ℕ) → IsBehindAll later → IsBehindItem later
  pub between : (n : ℕ) (x : X) (later : List ℕ) → IsBehindItem (text n x ++ later)

module _ {X : Type 0} (l : Listing X) where
  -- items that were read, of those that the text may begin with
  pub record ReadsItems (old now : List ℕ) (items : List X) : Type 0 where
    pub found : old ≡ l.texts 1 items ++ now
    pub only : (all : List X) (later : List ℕ) → l.AreAll all → l.IsBehindAll later → old ≡ l.texts 1 all ++ later → (rest : List X) × (all ≡ items ++ rest) × (now ≡ l.texts (length items + 1) rest ++ later)

  pub none_read : (old : List ℕ) → ReadsItems old old []
  none_read old = record {
    found = ap (λ (t : List ℕ). t ++ old) (sym (l.texts_none 1));
    only = λ all later whole apart is. (all, refl, is);
  }

  next_text : (n : ℕ) (x : X) (rest : List X) (later : List ℕ) → l.texts n (x ∷ rest) ++ later ≡ l.text n x ++ (l.texts (n + 1) rest ++ later)
  next_text n x rest later = ap (λ (t : List ℕ). t ++ later) (l.texts_some n x rest) ∙ append_assoc (l.text n x) (l.texts (n + 1) rest) later

  behind_rest : (n : ℕ) (rest : List X) (later : List ℕ) → l.IsBehindAll later → l.IsBehindItem (l.texts n rest ++ later)
  behind_rest n [] later apart = subst l.IsBehindItem (ap (λ (t : List ℕ). t ++ later) (sym (l.texts_none n))) (l.behind later apart)
  behind_rest n (x ∷ rest) later apart = subst l.IsBehindItem (sym (next_text n x rest later)) (l.between n x (l.texts (n + 1) rest ++ later))

module _ {X : Type 0} {l : Listing X} {old now : List ℕ} {items : List X} (so_far : ReadsItems l old now items) where
  module _ (unfinished : (eqb (length items) 0 || l.at_item now) ≡ true) where
    -- the next item, where not all are read
    next_item : (all : List X) (later : List ℕ) → l.AreAll all → l.IsBehindAll later → old ≡ l.texts 1 all ++ later
        → (x : X) × (rest : List X) × (all ≡ items ++ x ∷ rest) × (now ≡ l.text (length items + 1) x ++ (l.texts (length items + 1 + 1) rest ++ later))
    next_item all later whole apart is = let left = so_far.only all later whole apart is in by left.0 left.1 left.2
      where
        by : (rest : List X) → all ≡ items ++ rest → now ≡ l.texts (length items + 1) rest ++ later
            → (x : X) × (rest : List X) × (all ≡ items ++ x ∷ rest) × (now ≡ l.text (length items + 1) x ++ (l.texts (length items + 1 + 1) rest ++ later))
        by [] e n =
            elim (or_cases (eqb (length items) 0) (l.at_item now) unfinished) [
              | inl none ↦ absurd (omega (arith, l.one_at_least all whole, eqb-true (length items) 0 none, ap length (e ∙ append-nil items)))
              | inr more ↦ absurd (false≢true (sym (l.ends later apart) ∙ (ap l.at_item (sym (n ∙ ap (λ (t : List ℕ). t ++ later) (l.texts_none (length items + 1)))) ∙ more)))
            ]
        by (x ∷ rest) e n = (x, rest, e, n ∙ next_text l (length items + 1) x rest later)

    pub one_item_read : {new : List ℕ} {x : X} → Reads (l.IsItem (length items + 1)) (l.text (length items + 1)) l.IsBehindItem now new (Ok x) → ReadsItems l old new (items ++ x ∷ [])
    one_item_read {new} {x} read =
        let number : 1 + length items ≡ length items + 1 = omega arith in
        let one_more : l.texts 1 (items ++ x ∷ []) ≡ l.texts 1 items ++ l.text (length items + 1) x =
        numbered_push l.text l.texts l.texts_none l.texts_some 1 items x ∙ ap (λ k. l.texts 1 items ++ l.text k x) number in
        record {
          found = so_far.found ∙ ap (λ (t : List ℕ). l.texts 1 items ++ t) read.found.1 ∙ sym (append_assoc (l.texts 1 items) (l.text (length items + 1) x) new) ∙ ap (λ (t : List ℕ). t ++ new) (sym one_more);
          only = λ all later whole apart is.
              let (u, rest, e, n) = next_item all later whole apart is in
              let this = read.only u (l.texts (length items + 1 + 1) rest ++ later) (l.each items u rest (subst l.AreAll e whole)) (behind_rest l (length items + 1 + 1) rest later apart) n in
              (rest, e ∙ ap (λ y. items ++ y ∷ rest) (sym this.0) ∙ sym (append_assoc items (x ∷ []) rest), this.1 ∙ ap (λ k. l.texts (k + 1) rest ++ later) (sym (length_push items x)));
        }

    pub no_item_read : {new : List ℕ} {fault : FaultKind} → Reads (l.IsItem (length items + 1)) (l.text (length items + 1)) l.IsBehindItem now new (Err fault)
        → (all : List X) (later : List ℕ) → l.AreAll all → l.IsBehindAll later → old ≡ l.texts 1 all ++ later → fault ≡ Memory
    no_item_read read all later whole apart is =
        let (u, rest, e, n) = next_item all later whole apart is in
        read.only u (l.texts (length items + 1 + 1) rest ++ later) (l.each items u rest (subst l.AreAll e whole)) (behind_rest l (length items + 1 + 1) rest later apart) n

  -- all items that the text may begin with, where all were read
  pub no_other : (eqb (length items) 0 || l.at_item now) ≡ false → (all : List X) (later : List ℕ) → l.AreAll all → l.IsBehindAll later → old ≡ l.texts 1 all ++ later → (all ≡ items) × (now ≡ later)
  no_other finished all later whole apart is = let left = so_far.only all later whole apart is in by left.0 left.1 left.2
    where
      by : (rest : List X) → all ≡ items ++ rest → now ≡ l.texts (length items + 1) rest ++ later → (all ≡ items) × (now ≡ later)
      by [] e n = (e ∙ append-nil items, n ∙ ap (λ (t : List ℕ). t ++ later) (l.texts_none (length items + 1)))
      by (x ∷ rest) e n =
          let more = ap l.at_item (n ∙ next_text l (length items + 1) x rest later) ∙ l.begins (length items + 1) x (l.texts (length items + 1 + 1) rest ++ later) in
          absurd (false≢true (sym (or_parts (eqb (length items) 0) (l.at_item now) finished).1 ∙ more))
