use Rattle.std.proofs.Common.{ℕ, List, ◌==◌, take, drop, ap, ◌∙◌, arith}
use Rattle.std.specs.List.{prefix_len}
use Rattle.std.proofs.lemmas.List.Sums.{prefix_len-le-length}
use Rattle.channel_tables.specs.Channels.{first_of}
use Rattle.channel_tables.proofs.TrackOrder.{begun_front, begun_rest}
use Rattle.channel_tables.proofs.tables.ChannelTables.split_tracks.Goals as goal

pub split_at-requires : goal.split_at-requires
split_at-requires c =
    omega (arith, c.count_begun.ensures, prefix_len-le-length (λ t. first_of c.args.self.now c.args.self.now.nx t c.args.column == c.args.first) c.args.tracks.now)

pub returns-clause-begun : goal.returns-clause-begun
returns-clause-begun c =
    let f = c.args.self.now in
    let begun : List ℕ → ℕ = λ ts. prefix_len (λ t. first_of f f.nx t c.args.column == c.args.first) ts in
    c.split_at.ensures.front ∙ ap (λ k. take k c.args.tracks.now) c.count_begun.ensures
    ∙ ap (λ ts. take (begun ts) ts) c.requires.tracks ∙ begun_front f f.nx c.args.column c.args.first c.requires.first.1

pub returns-clause-rest : goal.returns-clause-rest
returns-clause-rest c =
    let f = c.args.self.now in
    let begun : List ℕ → ℕ = λ ts. prefix_len (λ t. first_of f f.nx t c.args.column == c.args.first) ts in
    c.split_at.ensures.back ∙ ap (λ k. drop k c.args.tracks.now) c.count_begun.ensures
    ∙ ap (λ ts. drop (begun ts) ts) c.requires.tracks ∙ begun_rest f f.nx c.args.column c.args.first c.requires.first.1
