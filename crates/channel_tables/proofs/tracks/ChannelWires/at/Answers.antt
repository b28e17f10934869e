use Rattle.std.proofs.Common.{◌≡◌, ℕ, ◌+◌, ◌-◌, ◌*◌, ◌<◌, ◌≤◌, List, ap, ◌∙◌}
use Rattle.std.specs.Prelude.{slice_get, Some}
use Rattle.std.specs.List.{flat_map}
use Rattle.std.proofs.lemmas.Option.{slice_get_within, get_or_from_slice_get}
use Rattle.channel_tables.specs.Fabric.{Fabric, numbers_below}
use Rattle.channel_tables.specs.Wires.{tracks_in}
use Rattle.channel_tables.specs.Channels.{wire_at}
use Rattle.channel_tables.specs.kept.Tables.{wires_at}
use Rattle.channel_tables.specs.declared.channel.Wire.{Wire}
use Rattle.channel_tables.proofs.WireTables.{wire_stands}
use Rattle.channel_tables.proofs.tracks.ChannelWires.at.Goals as goal

stands : (f : Fabric) (n p w t : ℕ) (ws : List Wire) → 1 ≤ p → p ≤ n → t < tracks_in f.mode f.width → w ≡ tracks_in f.mode f.width → ws ≡ flat_map (λ m. wires_at f n (m + 1)) (numbers_below n)
    → slice_get ws ((p - 1) * w + t) ≡ Some (wire_at f n p t)
stands f n p w t ws l m o e h =
    ap (λ v. slice_get ws ((p - 1) * v + t)) e ∙ ap (λ vs. slice_get vs ((p - 1) * tracks_in f.mode f.width + t)) h ∙ wire_stands f n p t l m o

pub bounds-self-place : goal.bounds-self-place
bounds-self-place c =
    slice_get_within c.args.self.now.list.now _ _
    (stands c.args.self.now.layout.now c.args.self.now.places c.args.place c.tracks.result c.args.track c.args.self.now.list.now c.requires.place.0 c.requires.place.1 c.requires.track c.tracks.ensures.tracks c.args.self.now.all)

pub returns : goal.returns
returns c =
    get_or_from_slice_get c.args.self.now.list.now _ _ _
    (stands c.args.self.now.layout.now c.args.self.now.places c.args.place c.tracks.result c.args.track c.args.self.now.list.now c.requires.place.0 c.requires.place.1 c.requires.track c.tracks.ensures.tracks c.args.self.now.all)
