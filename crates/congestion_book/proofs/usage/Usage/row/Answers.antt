use Rattle.std.proofs.Common.{◌≡◌, length, sym, ap₂, ◌∙◌, ◌++◌, arith}
use Rattle.congestion_book.specs.kept.Usage.{excess_of, entry_of}
use Rattle.congestion_book.proofs.Rows.{row_next, row_is}
use Rattle.congestion_book.proofs.usage.Usage.row.Goals as goal

pub loop-id-preserved : goal.loop-id-preserved
loop-id-preserved c =
    let g = excess_of c.args.device.now c.args.self.now.counts in
    c.in_ok-push_overuse.ensures ∙ (ap₂ (λ xs by. xs ++ entry_of (c.loop-id.id, by)) c.loop-id.invariant c.excess.ensures ∙ sym (row_next g c.loop-id.id))

pub returns : goal.returns
returns c =
    let all : length c.args.self.now.counts ≡ c.loop-id.id = omega (arith, c.loop-id-test.false, c.loop-id.auto.id-end, c.node_count-id-end.ensures.count, c.requires.each) in
    c.loop-id.invariant ∙ row_is c.args.device.now c.args.self.now.counts c.loop-id.id all
