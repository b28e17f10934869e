-- Numbers that rise: those of a range that pass a test, and how many there are at most.
use Rattle.std.proofs.Common.{◌≡◌, ℕ, ◌+◌, ◌*◌, ◌<◌, ◌≤◌, zero, suc, Bool, true, false, cond, max, List, [], ◌∷◌, length, subst, arith, All, length-append, if◌then◌else◌}
use Rattle.std.specs.List.{range_with_len, filter, flat_map, fold}
use Rattle.std.proofs.lemmas.List.Elements.{All-head, All-tail}
use Rattle.arch_file.specs.Architecture.{Architecture, IsWithinLimits, class_count}
use Rattle.arch_file.specs.declared.entries.Direction.{Direction}
use Rattle.arch_file.specs.declared.entries.Pin.{Pin}
use Rattle.channel_tables.specs.declared.node.Mode.{Mode}
use Rattle.channel_tables.specs.declared.node.Mode.TheVariants.{Detailed, Global}
use Rattle.channel_tables.specs.Fabric.{Fabric, IsFabric, numbers_below}
use Rattle.channel_tables.specs.Wires.{tracks_in, beginnings_at}
use Rattle.channel_tables.specs.Pins.{classes_of, pins_of}

-- numbers that rise from lo on, all below hi
abbrev pub Rises : ℕ → ℕ → List ℕ → Type 0
Rises lo hi [] = lo ≤ hi
Rises lo hi (n ∷ ns) = (lo ≤ n) × Rises (n + 1) hi ns

pub rises-lower : (low lo hi : ℕ) (ns : List ℕ) → low ≤ lo → Rises lo hi ns → Rises low hi ns
rises-lower low lo hi [] l h = omega arith
rises-lower low lo hi (n ∷ ns) l h = (omega (arith, h.0), h.1)

rises-range : (a n : ℕ) → Rises a (a + n) (range_with_len a n)
rises-range a zero = omega arith
rises-range a (suc n) =
    let e : a + 1 + n ≡ a + suc n = omega arith in
    let R : ℕ → Type 0 = λ h. Rises (a + 1) h (range_with_len (a + 1) n) in
    (omega arith, subst R e (rises-range (a + 1) n))

rises-cond : (b : Bool) (lo hi n : ℕ) (ns : List ℕ) → lo ≤ n → Rises (n + 1) hi ns → Rises lo hi (cond b (n ∷ ns) ns)
rises-cond true lo hi n ns l h = (l, h)
rises-cond false lo hi n ns l h = rises-lower lo (n + 1) hi ns (omega arith) h

pub rises-filter : (p : ℕ → Bool) (lo hi : ℕ) (ns : List ℕ) → Rises lo hi ns → Rises lo hi (filter p ns)
rises-filter p lo hi [] h = h
rises-filter p lo hi (n ∷ ns) h = rises-cond (p n) lo hi n (filter p ns) h.0 (rises-filter p (n + 1) hi ns h.1)

pub rises-higher : (lo hi high : ℕ) (ns : List ℕ) → hi ≤ high → Rises lo hi ns → Rises lo high ns
rises-higher lo hi high [] l h = omega arith
rises-higher lo hi high (n ∷ ns) l h = (h.0, rises-higher (n + 1) hi high ns l h.1)

pub length-rises : (lo hi : ℕ) (ns : List ℕ) → Rises lo hi ns → lo + length ns ≤ hi
length-rises lo hi [] h = omega arith
length-rises lo hi (n ∷ ns) h = omega (arith, h.0, length-rises (n + 1) hi ns h.1)

-- all below a bound
pub rises-below : (n high : ℕ) → n ≤ high → Rises 0 high (range_with_len 0 n)
rises-below n high l = rises-higher 0 (0 + n) high (range_with_len 0 n) (omega arith) (rises-range 0 n)

pub length-joined : {X : Type 0} (g : ℕ → List X) (most : ℕ) → ((i : ℕ) → length (g i) ≤ most) → (a n : ℕ) → length (flat_map g (range_with_len a n)) ≤ n * most
length-joined g most each a zero = omega arith
length-joined g most each a (suc n) =
    omega (arith, length-append (g a) (flat_map g (range_with_len (a + 1) n)), each a, length-joined g most each (a + 1) n)

pub rises-if : (b : Bool) (high : ℕ) (ms ns : List ℕ) → Rises 0 high ms → Rises 0 high ns → Rises 0 high (if b then ms else ns)
rises-if true high ms ns g h = g
rises-if false high ms ns g h = h

most_class : (pins : List Pin) (a : ℕ) → a ≤ 64 → All (λ p. p.class < 64) pins → fold (λ n p. max n (p.class + 1)) a pins ≤ 64
most_class [] a l h = l
most_class (p ∷ pins) a l h =
    let one : p.class < 64 = All-head (λ (q : Pin). q.class < 64) p pins h in
    most_class pins (max a (p.class + 1)) (omega arith) (All-tail (λ (q : Pin). q.class < 64) p pins h)

few_classes : (a : Architecture) → IsWithinLimits a → class_count a ≤ 64
few_classes a l = most_class a.pins 0 (omega arith) l.few_classes

few_tracks : (m : Mode) (w : ℕ) → w ≤ 256 → tracks_in m w ≤ 256
few_tracks Detailed w l = l
few_tracks Global w l = omega arith

pub classes-rise : (a : Architecture) (d : Direction) → IsWithinLimits a → Rises 0 64 (classes_of a d)
unfolding classes_of
classes-rise a d l = rises-filter _ 0 64 (numbers_below (class_count a)) (rises-below (class_count a) 64 (few_classes a l))

pub pins-rise : (a : Architecture) (d : Direction) → IsWithinLimits a → Rises 0 64 (pins_of a d)
unfolding pins_of
pins-rise a d l = rises-filter _ 0 64 (numbers_below (length a.pins)) (rises-below (length a.pins) 64 l.few_pins)

pub beginnings-rise : (f : Fabric) (n place : ℕ) → IsFabric f → Rises 0 256 (beginnings_at f n place)
beginnings-rise f n place l =
    rises-filter _ 0 256 (numbers_below (tracks_in f.mode f.width)) (rises-below (tracks_in f.mode f.width) 256 (few_tracks f.mode f.width l.few_tracks))
