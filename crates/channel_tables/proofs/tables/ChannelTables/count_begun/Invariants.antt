use Rattle.std.proofs.Common.{◌≡◌, ℕ, ◌<◌, true, get_or}
use Rattle.std.specs.Prelude.{◌==◌}
use Rattle.channel_tables.specs.Channels.{first_of}
use Rattle.channel_tables.proofs.tables.ChannelTables.count_begun.Given as goal

abbrev pub invariant-loop-count : goal.invariant-loop-count
invariant-loop-count l = (k : ℕ) → k < l.count → (first_of l.self l.self.nx (get_or l.tracks k 0) l.column == l.first) ≡ true
