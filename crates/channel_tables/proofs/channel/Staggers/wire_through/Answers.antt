use Rattle.std.proofs.Common.{◌≡◌, ℕ, ◌+◌, ◌-◌, ◌*◌, ◌<◌, ◌≤◌, Bool, true, false, get_or, inl, inr, List, length, sym, ap, ◌∙◌, arith}
use Rattle.std.specs.Prelude.{slice_get, Some}
use Rattle.std.proofs.lemmas.Bool.{cases_lt, false≢true}
use Rattle.std.proofs.lemmas.Option.{slice_get_within, get_or_from_slice_get}
use Rattle.channel_tables.specs.Fabric.{Fabric}
use Rattle.channel_tables.specs.Wires.{tracks_in, begins}
use Rattle.channel_tables.specs.Channels.{wire_at}
use Rattle.channel_tables.specs.declared.channel.Wire.{Wire}
use Rattle.channel_tables.proofs.WireTables.{wire_before}
use Rattle.channel_tables.proofs.channel.Staggers.wire_through.Goals as goal

later : (place : ℕ) (new : Bool) → 1 ≤ place → new ≡ false → (place ≡ 1 → new ≡ true) → 2 ≤ place
later place new l e first = elim (cases_lt 1 place) [ inl m ↦ m | inr upto ↦ absurd (false≢true (sym e ∙ first (omega (arith, upto, l)))) ]

within : (p w v t : ℕ) (wires : List Wire) (wire : Wire) → v ≡ w → slice_get wires ((p - 2) * w + t) ≡ Some wire → (p - 2) * v + t < length wires
within p w v t wires wire e here = rw e (slice_get_within wires ((p - 2) * w + t) wire here)

read : (f : Fabric) (n p v t : ℕ) (wires : List Wire) (d : Wire) → v ≡ tracks_in f.mode f.width → 2 ≤ p → begins f n t p ≡ false
    → slice_get wires ((p - 2) * tracks_in f.mode f.width + t) ≡ Some (wire_at f n (p - 1) t) → get_or wires ((p - 2) * v + t) d ≡ wire_at f n p t
read f n p v t wires d e l old here =
    let place : p - 1 + 1 ≡ p = omega arith in
    ap (λ u. get_or wires ((p - 2) * u + t) d) e ∙ get_or_from_slice_get wires _ (wire_at f n (p - 1) t) d here
    ∙ sym (wire_before f n (p - 1) t (omega arith) (ap (begins f n t) place ∙ old)) ∙ ap (λ q. wire_at f n q t) place

pub overflow_sub-result : goal.overflow_sub-result
overflow_sub-result c = later c.args.place c.begins_at.result c.requires.place.0 c.if-begins_at.false c.begins_at.ensures.first

pub bounds-wires-place : goal.bounds-wires-place
bounds-wires-place c =
    let l = later c.args.place c.begins_at.result c.requires.place.0 c.if-begins_at.false c.begins_at.ensures.first in
    within c.args.place _ c.tracks.result c.args.track c.args.wires.now _ c.tracks.ensures.tracks (c.requires.earlier l)

pub returns-else-begins_at : goal.returns-else-begins_at
returns-else-begins_at c =
    let l = later c.args.place c.begins_at.result c.requires.place.0 c.if-begins_at.false c.begins_at.ensures.first in
    read c.args.self.now.layout.now c.args.self.now.places c.args.place c.tracks.result c.args.track c.args.wires.now _ c.tracks.ensures.tracks l (sym c.begins_at.ensures.begins ∙ c.if-begins_at.false) (c.requires.earlier l)
