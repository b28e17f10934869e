-- What accepted lines keep: a pinlist stands after an element, and has a net, or none, for each pin
-- of the block.
use Rattle.std.proofs.Common.{◌≡◌, ℕ, zero, suc, ◌+◌, ◌-◌, ◌<◌, Bool, true, false, eqb, not, List, [], ◌∷◌, ◌++◌, length, get_or, take, Option, None, Some, refl, sym, ap, ◌∙◌, arith}
use Rattle.std.specs.Prelude.{is_some}
use Rattle.std.specs.Option.{option_map_or}
use Rattle.std.proofs.Math.Seq.{take-suc}
use Rattle.std.proofs.lemmas.Bool.{eqb-true, not-false}
use Rattle.std.proofs.lemmas.List.{append-nil, append_assoc}
use Rattle.vpr_text.specs.Words.{Line, no_line, words_at}
use Rattle.net_file.specs.declared.terminal.BlockKind.{BlockKind}
use Rattle.net_file.specs.Judge.{pin_count, first_fault, stands, is_bad_line, is_bad_count, is_double, fault_of_next}
use Rattle.net_file.specs.Lines.{kind_at, is_pinlist, opened, latest}
use Rattle.net_file.specs.Reads.{AreAccepted}
use Rattle.net_file.proofs.BlockCount.{of_bad_line, stands_not, opened_by}

-- each line after those before it is without a fault
pub accepted_at : (pins : ℕ) (before ls : List Line) (i : ℕ) → i < length ls → AreAccepted pins before ls → fault_of_next pins (before ++ take i ls) (get_or ls i no_line) ≡ None
accepted_at pins before [] i lt h = absurd (omega (arith, lt))
accepted_at pins before (l ∷ ls) zero lt h = ap (λ front. fault_of_next pins front l) (append-nil before) ∙ h.0
accepted_at pins before (l ∷ ls) (suc i) lt h =
    ap (λ front. fault_of_next pins front (get_or ls i no_line)) (sym (append_assoc before (l ∷ []) (take i ls))) ∙ accepted_at pins (before ++ l ∷ []) ls i (omega (arith, lt)) h.1

pub no_early : (c d e t : Bool) → first_fault c d e t ≡ None → (c ≡ false) × (d ≡ false) × (e ≡ false)
no_early true d e t h = absurd cc
no_early false true e t h = absurd cc
no_early false false true t h = absurd cc
no_early false false false true h = absurd cc
no_early false false false false h = (refl, refl, refl)

-- an element waits, and the line has as many words as its pinlist has to have
abbrev pub HasPins : ℕ → Option BlockKind → List (List ℕ) → Type 0
HasPins pins element words = (kind : BlockKind) × (element ≡ Some kind) × (length words ≡ pin_count pins kind + 1)

has_pins : (pins : ℕ) (o : Option BlockKind) (words : List (List ℕ)) → is_some o ≡ true → option_map_or (λ kind. not (eqb (length words) (pin_count pins kind + 1))) o false ≡ false → HasPins pins o words
has_pins pins None words e h = absurd cc
has_pins pins (Some kind) words e h = (kind, refl, eqb-true _ _ (not-false _ h))

pinlist_after : (pins : ℕ) (before : List Line) (l : Line) → fault_of_next pins before l ≡ None → is_pinlist l.words ≡ true → HasPins pins (opened before) l.words
unfolding fault_of_next is_bad_line is_bad_count
pinlist_after pins before l h e =
    let fine = no_early (is_bad_line (opened before) (latest before) l.words) (is_bad_count pins (opened before) l.words) (is_double _ l.words) _ h in
    let place = of_bad_line (is_some (opened before)) (is_pinlist l.words) (stands (latest before) l.words) fine.0 (stands_not (latest before) l.words) in
    has_pins pins (opened before) l.words (place.0 e) fine.1

none_opened : opened [] ≡ None
unfolding opened
none_opened = refl

-- the element that waits after the first lines is the last of them
opened_at : (ls : List Line) (i : ℕ) (kind : BlockKind) → i < length ls → opened (take i ls) ≡ Some kind → (0 < i) × (kind_at (words_at ls (i - 1)) ≡ Some kind)
opened_at ls zero kind lt e = absurd (none_some (sym none_opened ∙ e))
  where
    none_some : {k : BlockKind} → None ≡ Some k → ⊥
    none_some h = absurd cc
opened_at ls (suc i) kind lt e =
    let before : suc i - 1 ≡ i = omega arith in
    let last : opened (take (suc i) ls) ≡ kind_at (words_at ls i) = ap opened (take-suc ls i no_line (omega (arith, lt))) ∙ opened_by (take i ls) (get_or ls i no_line) in
    (omega arith, ap (λ k. kind_at (words_at ls k)) before ∙ sym last ∙ e)

-- a pinlist stands after an element, and has as many names as that block has pins
pub pinlist_fits : (pins : ℕ) (ls : List Line) (i : ℕ) → AreAccepted pins [] ls → i < length ls → is_pinlist (words_at ls i) ≡ true → (0 < i) × HasPins pins (kind_at (words_at ls (i - 1))) (words_at ls i)
pinlist_fits pins ls i h lt e =
    let fits = pinlist_after pins (take i ls) (get_or ls i no_line) (accepted_at pins [] ls i lt h) e in
    let element = opened_at ls i fits.0 lt fits.1 in
    (element.0, (fits.0, element.1, fits.2))
