-- How many wires lead over so many places at least.
use Rattle.std.proofs.Common.{◌≡◌, ℕ, ◌+◌, ◌-◌, ◌/◌, ◌≤◌, min, max, arith}
use Rattle.std.proofs.Math.Nat.{add-div_left, div-eq_of_lt, div-mul-le_self, le-div_iff_mul-le}
use Rattle.wavefront.specs.kept.Bounds.{wires_for, wires_over}

pub divided : (k a b : ℕ) → a ≤ b → a / (k + 1) ≤ b / (k + 1)
divided k a b up = (le-div_iff_mul-le (omega arith)).1 (let low = div-mul-le_self a (k + 1) in omega (arith, low, up))

pub over_more : (steps a b : ℕ) → a ≤ b → wires_over steps a ≤ wires_over steps b
unfolding wires_over
over_more steps a b up = divided steps (a + steps) (b + steps) (omega (arith, up))

-- one wire more leads over a wire's places
over_next : (steps a b : ℕ) → a ≤ b + steps + 1 → wires_over steps a ≤ wires_over steps b + 1
unfolding wires_over
over_next steps a b up =
    let next : (steps + 1 + (b + steps)) / (steps + 1) ≡ (b + steps) / (steps + 1) + 1 = add-div_left (b + steps) (omega arith) in
    let low = divided steps (a + steps) (steps + 1 + (b + steps)) (omega (arith, up)) in
    omega (arith, next, low)

-- none is needed where there are no places
over_none : (steps : ℕ) → wires_over steps 0 ≡ 0
unfolding wires_over
over_none steps = div-eq_of_lt (omega arith)

-- wires of one place lead over one each
pub over_one : (places : ℕ) → (places + 0) / (0 + 1) ≡ places
over_one places = omega arith

-- where one wire leads from another to a wire of the same channel
pub next_along : (steps along across next : ℕ) → along ≤ next + steps + 1 → wires_for steps along across ≤ wires_for steps next across + 1
next_along steps along across next up =
    let last = over_next steps (max along (min 1 across)) (max next (min 1 across)) (omega (arith, up)) in
    let turned = over_next steps (along - 1) (next - 1) (omega (arith, up)) in
    omega (arith, last, turned)

-- where it leads to one that crosses it, from whose channel on what lay along lies across
pub next_across : (steps along across next beside : ℕ) → along ≤ beside + 1 → across ≤ next + steps → wires_for steps along across ≤ wires_for steps next beside + 1
next_across steps along across next beside near up =
    let first = over_more steps (along - 1) beside (omega (arith, near)) in
    let second = over_next steps (across + 1) (max next (min 1 beside)) (omega (arith, up)) in
    let third = over_more steps (max along (min 1 across)) (beside + 1) (omega (arith, near)) in
    let fourth = over_next steps across (next - 1) (omega (arith, up)) in
    omega (arith, first, second, third, fourth)

over_each : (places : ℕ) → wires_over 0 places ≡ places
unfolding wires_over
over_each places = over_one places

-- where wires are one place long, the last one may as well lie along the channel
pub one_place : (along across : ℕ) → wires_for 0 along across ≡ max along (min 1 across) + across
one_place along across =
    let first = over_each (max along (min 1 across)) in
    let second = over_each across in
    let third = over_each (along - 1) in
    let fourth = over_each (across + 1) in
    omega (arith, first, second, third, fourth)

-- no wire leads on where none lies between
pub none_left : (steps along across : ℕ) → along + across ≡ 0 → wires_for steps along across ≡ 0
none_left steps along across e =
    let here = over_none steps in
    let a : along ≡ 0 = omega (arith, e) in
    let c : across ≡ 0 = omega (arith, e) in
    rw (a, c) (omega (arith, here))

-- no fewer lead on from farther off
pub for_more : (steps along across far beyond : ℕ) → along ≤ far → across ≤ beyond → wires_for steps along across ≤ wires_for steps far beyond
for_more steps along across far beyond up over =
    let first = over_more steps (max along (min 1 across)) (max far (min 1 beyond)) (omega (arith, up, over)) in
    let second = over_more steps across beyond over in
    let third = over_more steps (along - 1) (far - 1) (omega (arith, up)) in
    let fourth = over_more steps (across + 1) (beyond + 1) (omega (arith, over)) in
    omega (arith, first, second, third, fourth)
