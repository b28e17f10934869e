use Rattle.std.proofs.Common.{◌≡◌, ◌+◌, ◌-◌, ◌^◌, ◌<◌, ◌≤◌, false, vec_len}
use Rattle.std.specs.Io.KnownBytes.{Consumes}
use Rattle.vpr_text.proofs.reading.read_all.Given as goal

abbrev pub invariant-loop-buffer : goal.invariant-loop-buffer
invariant-loop-buffer g l =
    Consumes (g.R.ByteSource.remaining l.initial.source) (g.R.ByteSource.remaining l.source) l.bytes.items × (vec_len l.bytes ≤ 2 ^ 24 + 1)
    × (0 < vec_len l.bytes → g.R.ByteSource.failed l.source ≡ false)

abbrev pub decreases-loop-buffer : goal.decreases-loop-buffer
decreases-loop-buffer g l = 2 ^ 24 + 2 - vec_len l.bytes
