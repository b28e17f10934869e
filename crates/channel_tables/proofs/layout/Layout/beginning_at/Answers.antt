use Rattle.std.proofs.Common.{◌<◌, List, length, ap, ◌≡◌, ℕ, ◌+◌, ◌∙◌, sym, arith}
use Rattle.std.specs.Prelude.{slice_get}
use Rattle.std.proofs.lemmas.Option.{slice_get-get_or}
use Rattle.channel_tables.specs.declared.channel.Beginning.{Beginning}
use Rattle.channel_tables.specs.Fabric.{Fabric}
use Rattle.channel_tables.specs.Channels.{wires_before, beginnings_of}
use Rattle.channel_tables.proofs.WireTables.{beginnings_length}
use Rattle.channel_tables.proofs.layout.Layout.beginning_at.Goals as goal

within : (f : Fabric) (n i : ℕ) (bs : List Beginning) → bs ≡ beginnings_of f n → i < wires_before f n (n + 1) → i < length bs
within f n i bs e l = omega (arith, ap length e, beginnings_length f n, l)

pub bounds-beginnings-index : goal.bounds-beginnings-index
bounds-beginnings-index c = within c.args.self.now c.args.channel.now.places c.args.index c.deref-beginnings.result.now (c.deref-beginnings.ensures.value ∙ c.requires.tables.beginnings) c.requires.within

pub returns : goal.returns
returns c =
    let all = c.deref-beginnings.ensures.value ∙ c.requires.tables.beginnings in
    ap (λ bs. slice_get bs c.args.index) (sym all)
    ∙ slice_get-get_or c.deref-beginnings.result.now c.args.index _ (within c.args.self.now c.args.channel.now.places c.args.index c.deref-beginnings.result.now all c.requires.within)
