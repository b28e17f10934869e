-- The classes of an architecture's pins, by direction.
use Rattle.std.proofs.Common.{◌≡◌, ℕ, zero, suc, ◌+◌, ◌<◌, ◌≤◌, true, max, List, [], ◌∷◌, length, Some, refl, ap, subst, ◌∙◌, arith}
use Rattle.std.specs.Prelude.{slice_get}
use Rattle.std.specs.List.{filter, fold}
use Rattle.std.proofs.lemmas.Option.{slice_get_within, get_or_from_slice_get}
use Rattle.arch_file.specs.Architecture.{Architecture, IsWithinLimits, class_count, class_direction}
use Rattle.arch_file.specs.declared.entries.Direction.{Direction}
use Rattle.arch_file.specs.declared.entries.Direction.TheVariants.{Input, Output}
use Rattle.arch_file.specs.declared.entries.Pin.{Pin}
use Rattle.channel_tables.specs.Fabric.{numbers_below}
use Rattle.channel_tables.specs.Pins.{has_direction, classes_of}
use Rattle.node_numbers.proofs.NumbersAtPlaces.{kept_at}

counted_below : (pins : List Pin) (n : ℕ) → n ≤ fold (λ m p. max m (p.class + 1)) n pins
counted_below [] n = omega arith
counted_below (p ∷ pins) n = omega (arith, counted_below pins (max n (p.class + 1)))

counted_from : (pins : List Pin) (n place : ℕ) (pin : Pin) → slice_get pins place ≡ Some pin → pin.class < fold (λ m p. max m (p.class + 1)) n pins
counted_from [] n place pin e = absurd cc
counted_from (p ∷ pins) n zero pin e = omega (arith, counted_below pins (max n (p.class + 1)), class_of p pin e)
  where
    class_of : (p q : Pin) → Some p ≡ Some q → p.class ≡ q.class
    class_of p q e = cc
counted_from (p ∷ pins) n (suc place) pin e = counted_from pins (max n (p.class + 1)) place pin e

same_direction : (d : Direction) → has_direction d (Some d) ≡ true
same_direction Input = refl
same_direction Output = refl

module _ (a : Architecture) (place : ℕ) (pin : Pin) (e : slice_get a.pins place ≡ Some pin) where
  pub class_counted : pin.class < class_count a
  class_counted = counted_from a.pins 0 place pin e

  -- a class has the direction of each of its pins
  pub class_directed : IsWithinLimits a → class_direction a pin.class ≡ Some pin.direction
  class_directed limits =
      subst (λ p. class_direction a p.class ≡ Some p.direction) (get_or_from_slice_get a.pins place pin pin e) (limits.one_direction place pin (slice_get_within a.pins place pin e))

  -- a pin's class stands among those of its direction behind those below it
  pub class_placed : IsWithinLimits a
      → slice_get (classes_of a pin.direction) (length (filter (λ c. has_direction pin.direction (class_direction a c)) (numbers_below pin.class))) ≡ Some pin.class
  unfolding classes_of
  class_placed limits =
      kept_at (λ c. has_direction pin.direction (class_direction a c)) (class_count a) pin.class
      (ap (has_direction pin.direction) (class_directed limits) ∙ same_direction pin.direction) class_counted

  pub class_listed : IsWithinLimits a → (j : ℕ) × (slice_get (classes_of a pin.direction) j ≡ Some pin.class)
  class_listed limits = (_, class_placed limits)
