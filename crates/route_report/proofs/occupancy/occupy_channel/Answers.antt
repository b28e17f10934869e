use Rattle.std.proofs.Common.{ℕ, List, [], ◌+◌, ◌^◌, ◌<◌, get_or, subst}
use Rattle.std.proofs.lemmas.List.{get_or_default}
use Rattle.route_report.proofs.occupancy.occupy_channel.Goals as goal

pub occupy-requires : goal.occupy-requires
occupy-requires c =
    λ m. subst (λ (row : List ℕ). get_or row m 0 + c.args.by < 2 ^ 63)
    (get_or_default c.args.channels.now c.args.stretch.channel [] c.index-channels-stretch.result c.if-stretch-channels.true) (c.requires c.args.stretch.channel m)
