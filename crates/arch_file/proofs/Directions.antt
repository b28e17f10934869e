-- The pins of a class have one direction.
use Rattle.std.proofs.Common.{◌≡◌, ℕ, Bool, true, false, eqb, ◌&&◌, not, List, [], ◌∷◌, ◌++◌, length, All, Option, Some, None, refl, ap, arith, ◌∙◌}
use Rattle.std.specs.Prelude.{find, unwrap_or}
use Rattle.std.specs.Option.{option_map, option_map_or, option_or}
use Rattle.std.proofs.lemmas.Bool.{eq-eqb, lt-ltb, not-false}
use Rattle.std.proofs.lemmas.List.Elements.{All-push, All-weaker}
use Rattle.std.proofs.lemmas.List.Folds.{find-append}
use Rattle.arch_file.specs.declared.line.ArchLine.{ArchLine}
use Rattle.arch_file.specs.declared.entries.Direction.{Direction}
use Rattle.arch_file.specs.declared.entries.Direction.TheVariants.{Input, Output}
use Rattle.arch_file.specs.declared.entries.Pin.{Pin}
use Rattle.arch_file.specs.Lines.{same_direction, pins_of}
use Rattle.arch_file.specs.PinLine.{mixes, is_bad_class, is_global_pin, side_words, lacks_sides, pin_in}
use Rattle.vpr_text.specs.Word.{has, number_in}
use Rattle.arch_file.proofs.Faultless.{and_false, found_passes, found_fails}

-- the direction of the first pin of a class
abbrev pub direction_in : List Pin → ℕ → Option Direction
direction_in pins class = option_map (λ p. p.direction) (find (λ p. eqb p.class class) pins)

-- each pin has the direction of its class
abbrev pub HaveOneDirection : List Pin → Type 0
HaveOneDirection pins = All (λ p. direction_in pins p.class ≡ Some p.direction) pins

-- ---- one pin more

found_first : (a b : Option Pin) (d : Direction) → option_map (λ p. p.direction) a ≡ Some d → option_map (λ p. p.direction) (option_or a b) ≡ Some d
found_first (Some p) b d e = e
found_first None b d e = absurd cc

same_directions : (a b : Direction) → same_direction a b ≡ true → a ≡ b
same_directions Input Input e = refl
same_directions Input Output e = absurd cc
same_directions Output Input e = absurd cc
same_directions Output Output e = refl

found_or_last : (a : Option Pin) (p : Pin) → ((q : Pin) → a ≡ Some q → q.direction ≡ p.direction) → option_map (λ q. q.direction) (option_or a (Some p)) ≡ Some p.direction
found_or_last None p same = refl
found_or_last (Some q) p same = ap Some (same q refl)

found_itself : (p : Pin) → find (λ q. eqb q.class p.class) (p ∷ []) ≡ Some p
found_itself p = rw (eq-eqb p.class p.class refl) refl

agrees : (before : List ArchLine) (p q : Pin) → mixes before p.direction p.class ≡ false → find (λ r. eqb r.class p.class) (pins_of before) ≡ Some q → q.direction ≡ p.direction
unfolding mixes
agrees before p q none e =
    let class = found_passes (λ (r : Pin). eqb r.class p.class) (pins_of before) q e in
    let fails = found_fails (λ (r : Pin). eqb r.class p.class) (λ (r : Pin). eqb r.class p.class && not (same_direction r.direction p.direction)) (pins_of before) q none e in
    same_directions q.direction p.direction (not-false _ (and_false (eqb q.class p.class) (not (same_direction q.direction p.direction)) fails class))

pub one_direction_more : (before : List ArchLine) (p : Pin) → HaveOneDirection (pins_of before) → mixes before p.direction p.class ≡ false → HaveOneDirection (pins_of before ++ p ∷ [])
one_direction_more before p h none =
    let pins = pins_of before in
    let direction : Option Pin → Option Direction = option_map (λ q. q.direction) in
    let more = λ (class : ℕ). ap direction (find-append (λ q. eqb q.class class) pins (p ∷ [])) in
    let old = All-weaker (λ q. direction_in pins q.class ≡ Some q.direction) (λ q. direction_in (pins ++ p ∷ []) q.class ≡ Some q.direction) (λ q e. more q.class ∙ found_first _ _ q.direction e) pins h in
    let last = ap (λ r. direction (option_or (find (λ q. eqb q.class p.class) pins) r)) (found_itself p) in
    All-push (λ q. direction_in (pins ++ p ∷ []) q.class ≡ Some q.direction) pins p old (more p.class ∙ last ∙ found_or_last _ p (λ q e. agrees before p q none e))

-- ---- the pin of a line

class_is_there : (d : Direction) (words : List (List ℕ)) → lacks_sides d words ≡ false → has words 2 ≡ true
unfolding lacks_sides side_words is_global_pin
class_is_there Input [] e = absurd cc
class_is_there Output [] e = absurd cc
class_is_there Input (a ∷ []) e = absurd cc
class_is_there Output (a ∷ []) e = absurd cc
class_is_there Input (a ∷ b ∷ []) e = absurd cc
class_is_there Output (a ∷ b ∷ []) e = absurd cc
class_is_there d (a ∷ b ∷ c ∷ words) e = lt-ltb 2 (length (a ∷ b ∷ c ∷ words)) (omega arith)

of_number : (test : ℕ → Bool) (n : Option ℕ) → option_map_or test n true ≡ false → test (unwrap_or n 0) ≡ false
of_number test None e = absurd cc
of_number test (Some n) e = e

-- a line whose class is not bad and that names sides describes a pin that mixes with none before it
pub not_mixed : (before : List ArchLine) (d : Direction) (words : List (List ℕ)) → is_bad_class before d words ≡ false → lacks_sides d words ≡ false → mixes before (pin_in d words).direction (pin_in d words).class ≡ false
unfolding is_bad_class pin_in
not_mixed before d words class sides =
    of_number (mixes before d) (number_in words 2) (and_false (has words 2) (option_map_or (mixes before d) (number_in words 2) true) class (class_is_there d words sides))
