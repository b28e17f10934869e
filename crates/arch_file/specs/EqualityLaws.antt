-- Two architectures are the same exactly where the test says so; the test is an equivalence.
use Rattle.std.proofs.Common.{◌≡◌, Bool, true, sym, ap, refl, subst}
use Rattle.std.specs.Bool.{Decides}
use Rattle.std.specs.Cmp.{IsEquivalence, IsPartialEquivalence, partial_equiv_from_equiv, unsigned_Decides, booleans_Decides}
use Rattle.std.specs.Cmp.Lexicographic.{pointwise_decides}
use Rattle.std.proofs.lemmas.Bool.{false≢true}
use Rattle.std.proofs.lemmas.Bool.Decides.{Decides-and, Decides-like, same_from_decides}
use Rattle.arch_file.specs.declared.entries.Sides.{Sides}
use Rattle.arch_file.specs.declared.entries.Pin.{Pin}
use Rattle.arch_file.specs.declared.entries.Direction.{Direction}
use Rattle.arch_file.specs.declared.entries.Direction.TheVariants.{Input, Output}
use Rattle.arch_file.specs.declared.entries.FcType.{FcType}
use Rattle.arch_file.specs.declared.entries.FcType.TheVariants.{Absolute, Fractional}
use Rattle.arch_file.specs.declared.entries.Segment.{Segment}
use Rattle.arch_file.specs.declared.entries.SegmentLength.{SegmentLength}
use Rattle.arch_file.specs.declared.entries.SegmentLength.TheVariants.{Places, Longline}
use Rattle.arch_file.specs.declared.entries.Switch.{Switch}
use Rattle.arch_file.specs.Architecture.{Architecture}
use Rattle.arch_file.specs.Lines.{same_direction}
use Rattle.arch_file.specs.Equality.{same_sides, same_pin, same_fc_type, same_length, same_segment, same_switch, same_fc, is_same_architecture}

module _ {K : Type 0} (E : K → K → Bool) where
  -- each value passes with itself, and two that pass are the same
  pub decides_from_tests : ((a : K) → E a a ≡ true) → ((a b : K) → E a b ≡ true → a ≡ b) → (a b : K) → Decides (E a b) (a ≡ b)
  decides_from_tests same reported a b = (reported a b, λ e. subst (λ c. E a c ≡ true) e (same a))

  -- a test that decides whether two are the same is an equivalence
  pub equivalence_from_decides : ((a b : K) → Decides (E a b) (a ≡ b)) → IsEquivalence E
  equivalence_from_decides decides =
      record {
        refl = λ a. (decides a a).1 refl;
        symm = λ a b. same_from_decides (E a b) (E b a) (decides a b) (Decides-like (E b a) sym sym (decides b a));
        congr = λ a b c e. ap (λ d. E d c) ((decides a b).0 e);
      }

pub direction_decides : (a b : Direction) → Decides (same_direction a b) (a ≡ b)
direction_decides = decides_from_tests same_direction same reported
  where
    same : (a : Direction) → same_direction a a ≡ true
    same Input = refl
    same Output = refl

    reported : (a b : Direction) → same_direction a b ≡ true → a ≡ b
    reported Input Input e = refl
    reported Input Output e = absurd (false≢true e)
    reported Output Input e = absurd (false≢true e)
    reported Output Output e = refl

pub fc_type_decides : (a b : FcType) → Decides (same_fc_type a b) (a ≡ b)
fc_type_decides = decides_from_tests same_fc_type same reported
  where
    same : (a : FcType) → same_fc_type a a ≡ true
    same Absolute = refl
    same Fractional = refl

    reported : (a b : FcType) → same_fc_type a b ≡ true → a ≡ b
    reported Absolute Absolute e = refl
    reported Absolute Fractional e = absurd (false≢true e)
    reported Fractional Absolute e = absurd (false≢true e)
    reported Fractional Fractional e = refl

pub length_decides : (a b : SegmentLength) → Decides (same_length a b) (a ≡ b)
length_decides = decides_from_tests same_length same reported
  where
    same : (a : SegmentLength) → same_length a a ≡ true
    same (Places n) = (unsigned_Decides n n).1 refl
    same Longline = refl

    reported : (a b : SegmentLength) → same_length a b ≡ true → a ≡ b
    reported (Places m) (Places n) e = ap Places ((unsigned_Decides m n).0 e)
    reported (Places m) Longline e = absurd (false≢true e)
    reported Longline (Places n) e = absurd (false≢true e)
    reported Longline Longline e = refl

pub sides_decides : (a b : Sides) → Decides (same_sides a b) (a ≡ b)
sides_decides a b =
    Decides-like (same_sides a b) (λ h. λ i. record { top = h.0 i; bottom = h.1.0 i; left = h.1.1.0 i; right = h.1.1.1 i })
    (λ e. (ap (λ s. s.top) e, (ap (λ s. s.bottom) e, (ap (λ s. s.left) e, ap (λ s. s.right) e))))
    (Decides-and _ _ (booleans_Decides a.top b.top)
    (Decides-and _ _ (booleans_Decides a.bottom b.bottom) (Decides-and _ _ (booleans_Decides a.left b.left) (booleans_Decides a.right b.right))))

pub pin_decides : (a b : Pin) → Decides (same_pin a b) (a ≡ b)
pin_decides a b =
    Decides-like (same_pin a b) (λ h. λ i. record { class = h.0 i; direction = h.1.0 i; global = h.1.1.0 i; sides = h.1.1.1 i })
    (λ e. (ap (λ p. p.class) e, (ap (λ p. p.direction) e, (ap (λ p. p.global) e, ap (λ p. p.sides) e))))
    (Decides-and _ _ (unsigned_Decides a.class b.class)
    (Decides-and _ _ (direction_decides a.direction b.direction) (Decides-and _ _ (booleans_Decides a.global b.global) (sides_decides a.sides b.sides))))

pub segment_decides : (a b : Segment) → Decides (same_segment a b) (a ≡ b)
segment_decides a b =
    Decides-like (same_segment a b) (λ h. λ i. record { frequency = h.0 i; length = h.1.0 i; wire_switch = h.1.1.0 i; opin_switch = h.1.1.1 i })
    (λ e. (ap (λ s. s.frequency) e, (ap (λ s. s.length) e, (ap (λ s. s.wire_switch) e, ap (λ s. s.opin_switch) e))))
    (Decides-and _ _ (unsigned_Decides a.frequency b.frequency)
    (Decides-and _ _ (length_decides a.length b.length)
    (Decides-and _ _ (unsigned_Decides a.wire_switch b.wire_switch) (unsigned_Decides a.opin_switch b.opin_switch))))

pub switch_decides : (a b : Switch) → Decides (same_switch a b) (a ≡ b)
switch_decides a b =
    Decides-like (same_switch a b) (λ h. λ i. record { number = h.0 i; buffered = h.1 i })
    (λ e. (ap (λ s. s.number) e, ap (λ s. s.buffered) e))
    (Decides-and _ _ (unsigned_Decides a.number b.number) (booleans_Decides a.buffered b.buffered))

module _ (a b : Architecture) where
  fc_decides : Decides (same_fc a b) ((a.fc_type ≡ b.fc_type) × ((a.fc_output ≡ b.fc_output) × ((a.fc_input ≡ b.fc_input) × (a.fc_pad ≡ b.fc_pad))))
  fc_decides =
      Decides-and _ _ (fc_type_decides a.fc_type b.fc_type)
      (Decides-and _ _ (unsigned_Decides a.fc_output b.fc_output)
      (Decides-and _ _ (unsigned_Decides a.fc_input b.fc_input) (unsigned_Decides a.fc_pad b.fc_pad)))

  -- the test is true exactly where the two are the same
  pub same_architecture : Decides (is_same_architecture a b) (a ≡ b)
  unfolding is_same_architecture
  same_architecture =
      Decides-like (is_same_architecture a b)
      (λ h. λ i. record {
        io_rat = h.0 i;
        pins = h.1.0 i;
        fc_type = h.1.1.0.0 i;
        fc_output = h.1.1.0.1.0 i;
        fc_input = h.1.1.0.1.1.0 i;
        fc_pad = h.1.1.0.1.1.1 i;
        segments = h.1.1.1.0 i;
        switches = h.1.1.1.1 i;
      })
      (λ e. (
        ap (λ s. s.io_rat) e,
        (
          ap (λ s. s.pins) e,
          ((ap (λ s. s.fc_type) e, (ap (λ s. s.fc_output) e, (ap (λ s. s.fc_input) e, ap (λ s. s.fc_pad) e))), (ap (λ s. s.segments) e, ap (λ s. s.switches) e)),
        ),
      ))
      (Decides-and _ _ (unsigned_Decides a.io_rat b.io_rat)
      (Decides-and _ _ (pointwise_decides pin_decides a.pins b.pins)
      (Decides-and _ _ fc_decides
      (Decides-and _ _ (pointwise_decides segment_decides a.segments b.segments) (pointwise_decides switch_decides a.switches b.switches)))))

pub same_architecture_equivalence : IsEquivalence is_same_architecture
same_architecture_equivalence = equivalence_from_decides is_same_architecture same_architecture

pub same_architecture_symmetric : IsPartialEquivalence is_same_architecture
same_architecture_symmetric = partial_equiv_from_equiv same_architecture_equivalence
