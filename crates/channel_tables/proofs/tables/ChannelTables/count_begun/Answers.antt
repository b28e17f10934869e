use Rattle.std.proofs.Common.{◌==◌, sym, arith}
use Rattle.std.proofs.lemmas.List.Sums.{prefix_len_is}
use Rattle.channel_tables.specs.Channels.{first_of}
use Rattle.channel_tables.proofs.tables.ChannelTables.count_begun.Goals as goal

pub returns : goal.returns
returns c =
    let f = c.args.self.now in
    let all = c.loop-count.invariant in
    sym (prefix_len_is (λ t. first_of f f.nx t c.args.column == c.args.first) c.args.tracks.now _ 0 (omega arith) (λ k l. all k (omega (arith, c.loop-count-test.false))) (λ l. absurd (omega arith)))
