-- The sinks that the wave has yet to take are fewer after a path.
use Rattle.std.proofs.Common.{◌≡◌, ℕ, ◌<◌, Bool, true, false, not, refl, sym, ◌∙◌, arith, eq-eqb}
use Rattle.std.proofs.lemmas.Grind.{common_steps}
use Rattle.std.proofs.lemmas.Bool.{false≢true}
use Rattle.wavefront.specs.Space.{IsWanted}
use Rattle.wavefront.proofs.Counted.{count_less}
use Rattle.wave_ground.specs.kept.Grounds.{Ground}
use Rattle.group_wave.specs.kept.Growing.{is_origin, open_count}
use Rattle.group_wave.specs.kept.WaveState.{Wave}
use Rattle.group_wave.specs.kept.Wave.{IsOrigin}

pub origin_test : (w : Wave) (v : ℕ) → IsOrigin w v → is_origin w v ≡ true
origin_test w v o = rw (eq-eqb _ _ o.0, eq-eqb _ _ o.1) refl

pub origin_tested : (w : Wave) (v : ℕ) → is_origin w v ≡ true → IsOrigin w v
origin_tested w v e = grind (arith, common_steps)

untested : (w : Wave) (v : ℕ) (b : Bool) → is_origin w v ≡ b → (IsOrigin w v → ⊥) → b ≡ false
untested w v true e apart = absurd (apart (origin_tested w v e))
untested w v false e apart = refl

-- an open sink is taken, and no sink is lost
pub fewer_open : (g : Ground) (s t : Wave) (sink : ℕ) → IsWanted g.space sink → (IsOrigin s sink → ⊥) → IsOrigin t sink → ((v : ℕ) → IsWanted g.space v → IsOrigin s v → IsOrigin t v) → open_count g t < open_count g s
fewer_open g s t sink wanted apart taken kept =
    count_less (λ v. not (is_origin t v)) (λ v. not (is_origin s v)) g.space.net.sinks sink
    (λ v h shut. rw (untested s v _ refl (λ o. false≢true (sym (rw (origin_test t v (kept v h o)) refl) ∙ shut))) refl)
    wanted
    (rw (origin_test t sink taken) refl)
    (rw (untested s sink _ refl apart) refl)
