use Rattle.std.proofs.Common.{◌+◌, ◌^◌, arith}
use Rattle.vpr_text.proofs.Transfers.{Consumes-more, length-more, ReadsFront-end, ReadsFront-full}
use Rattle.vpr_text.proofs.reading.read_all.Goals as goal
use Rattle.vpr_text.proofs.reading.read_all.Goals.{else-loop-buffer-test, then-loop-buffer-test+in_ok-read_some+then-branch-eq0}

pub returns-clause-bytes : goal.returns-clause-bytes
returns-clause-bytes g c =
    let remaining = g.R.ByteSource.remaining in
    let before = c.loop-buffer.invariant in
    let len = c.loop-buffer.bytes.ok.0 in
    elim c.loop-buffer-test.branch [
      | else-loop-buffer-test w ↦ rw (w.source-is, w.bytes-is)
          (ReadsFront-full (2 ^ 24 + 1) (remaining c.args.source.now) (remaining c.loop-buffer.source) c.loop-buffer.bytes.items before.0 (let above = w.loop-buffer-test.false in let most = before.1 in omega arith))
      | then-loop-buffer-test+in_ok-read_some+then-branch-eq0 w ↦ rw (w.source-is, w.bytes-is)
          (ReadsFront-end (2 ^ 24 + 1) (remaining c.args.source.now) (remaining w.read_some.new.source) w.read_some.new.bytes.items
          (Consumes-more (remaining c.args.source.now) (remaining c.loop-buffer.source) (remaining w.read_some.new.source) c.loop-buffer.bytes.items w.read_some.new.bytes.items _ before.0 w.in_ok-read_some.ensures.bytes)
          (w.in_ok-read_some.ensures.bytes.end w.if-branch-eq0.true)
          (let more = length-more (remaining c.loop-buffer.source) (remaining w.read_some.new.source) c.loop-buffer.bytes.items w.read_some.new.bytes.items _ w.in_ok-read_some.ensures.bytes in
          let none = w.if-branch-eq0.true in let most = before.1 in omega arith))
    ]
