-- How many wires lead on, in worked cases.
use Rattle.std.proofs.Common.{◌≡◌, refl}
use Rattle.wavefront.specs.kept.Bounds.{wires_for, wires_over}

-- where wires are one place long
short_wires : (wires_for 0 0 0 ≡ 0) × (wires_for 0 3 0 ≡ 3) × (wires_for 0 0 2 ≡ 3) × (wires_for 0 1 2 ≡ 3) × (wires_for 0 3 2 ≡ 5)
unfolding wires_over
short_wires = (refl, refl, refl, refl, refl)

-- where they are four places long
long_wires : (wires_for 3 0 0 ≡ 0) × (wires_for 3 4 0 ≡ 1) × (wires_for 3 5 0 ≡ 2) × (wires_for 3 0 3 ≡ 1) × (wires_for 3 0 4 ≡ 2) × (wires_for 3 2 3 ≡ 2)
unfolding wires_over
long_wires = (refl, refl, refl, refl, refl, refl)

-- where they go over all of a channel
longlines : (wires_for 99 1 50 ≡ 1) × (wires_for 99 2 50 ≡ 2)
unfolding wires_over
longlines = (refl, refl)
